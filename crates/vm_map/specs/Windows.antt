-- The window of the first pairs from a key on, and where the next pair stands.
use Rattle.vm_map.specs.Keys.{KEY_END}
use Rattle.std.specs.Prelude.{◌≡◌, ℕ, zero, suc, [], ◌∷◌, take, filter, min, nat_le}
use Rattle.vm_map.specs.Map.{Pairs}
use Rattle.vm_map.specs.History.{bound_of}
use Rattle.vm_map.specs.declared.call.Call.{Call}
use Rattle.vm_map.specs.declared.call.Call.TheVariants.{Window as Asked}
use Rattle.vm_map.specs.declared.call.Reply.{Reply}
use Rattle.vm_map.specs.declared.call.Reply.TheVariants.{Win}
use Rattle.vm_map.specs.declared.window.Window.{Window}
use Rattle.vm_map.specs.declared.window.TheConstants.{MOST_PAIRS}

-- the pairs from a key on
abbrev pub from_key : ℕ → Pairs → Pairs
from_key start m = filter (λ e. nat_le start e.0) m

-- the key after so many pairs, and high where there is none
abbrev pub bound_after : Pairs → ℕ → ℕ → ℕ
bound_after [] most high = high
bound_after (e ∷ es) zero high = e.0
bound_after (e ∷ es) (suc most) high = bound_after es most high

-- the first pairs from start on, `most` of them or all; no other pair stands below the bound, or below high where none is left
pub record IsWindow (pairs : Pairs) (high start most : ℕ) (window : Window) : Type 0 where
  pub shows : window.pairs ≡ take most (from_key start pairs)
  pub ends : bound_of window.bound ≡ bound_after (from_key start pairs) most high

-- a window that is asked for is that of the first pairs of the map, with what is above 28 read as 28
abbrev pub IsFirstWindow : Pairs → Call → Reply → Type 0
IsFirstWindow m (Asked start most) (Win window) = IsWindow m KEY_END start (min most MOST_PAIRS) window
IsFirstWindow _ _ _ = Unit {0}
