-- What a call on a map is answered, which map it leaves, and when a history of calls is right.
use Rattle.vm_map.specs.Keys.{KEY_END}
use Rattle.std.specs.Prelude.{◌≡◌, ℕ, ◌<◌, ◌≤◌, List, [], ◌∷◌, length, filter, nat_lt, nat_le, ◌&&◌, ◌==◌}
use Rattle.std.specs.Prelude.{if◌then◌else◌, Option, None, Some}
use Rattle.vm_map.specs.Map.{Pairs, lookup_at, put_pair, del_pair, swap_pair}
use Rattle.vm_map.specs.declared.call.Call.{Call}
use Rattle.vm_map.specs.declared.call.Call.TheVariants.{Get, Put, Del, Window, Swap, Range}
use Rattle.vm_map.specs.declared.call.Reply.{Reply}
use Rattle.vm_map.specs.declared.call.Reply.TheVariants.{Got, Was, Gone, Win, Swapped, Many, Wide}
use Rattle.vm_map.specs.declared.call.Swap.{Swap as Outcome}
use Rattle.vm_map.specs.declared.call.Swap.TheVariants as swaps
use Rattle.vm_map.specs.declared.call.Said.{Said}
use Rattle.vm_map.specs.declared.window.Bound.{Bound}
use Rattle.vm_map.specs.declared.window.Bound.TheVariants.{Key, End}

-- a bound as a number: no key reaches 2 ^ 64
abbrev pub bound_of : Bound → ℕ
bound_of (Key key) = key
bound_of End = KEY_END

-- the pairs of the map from a key on and below a bound
abbrev pub between : Pairs → ℕ → ℕ → Pairs
between m from upto = filter (λ e. nat_le from e.0 && nat_lt e.0 upto) m

-- a window is asked for at least one pair, and a range up to a bound above its key
abbrev pub IsAskable : Call → Type 0
IsAskable (Get key) = Unit {0}
IsAskable (Put key value) = Unit {0}
IsAskable (Del key) = Unit {0}
IsAskable (Window start most) = 1 ≤ most
IsAskable (Swap key want value) = Unit {0}
IsAskable (Range low bound) = low < bound_of bound

-- what a swap does, by the value that the key has
abbrev pub outcome_of : Option ℕ → ℕ → Outcome
outcome_of None want = swaps.Missing
outcome_of (Some v) want = if v == want then swaps.Done else swaps.Kept v

-- the reply to a call on the map m: the value at the key, before a put or a del; to a window all pairs
-- from its start up to a bound above it, as many as it asks for or fewer; to a swap what it does; to a range all
-- its pairs, or that it is too wide, which says nothing of the map
abbrev pub IsReply : Pairs → Call → Reply → Type 0
IsReply m (Get key) (Got found) = found ≡ lookup_at m key
IsReply m (Put key value) (Was old) = old ≡ lookup_at m key
IsReply m (Del key) (Gone old) = old ≡ lookup_at m key
IsReply m (Window start most) (Win window) = (start < bound_of window.bound)
    × (window.pairs ≡ between m start (bound_of window.bound)) × (length window.pairs ≤ most)
IsReply m (Swap key want value) (Swapped outcome) = outcome ≡ outcome_of (lookup_at m key) want
IsReply m (Range low bound) (Many span) = span.0 ≡ between m low (bound_of bound)
IsReply m (Range low bound) (Wide reach) = (low < reach) × (reach < bound_of bound)
IsReply _ _ _ = ⊥

-- the map after the call
abbrev pub after : Pairs → Call → Pairs
after m (Get key) = m
after m (Put key value) = put_pair m key value
after m (Del key) = del_pair m key
after m (Window start most) = m
after m (Swap key want value) = swap_pair m key want value
after m (Range low bound) = m

-- the call takes memory in a plain map: it puts a value at a key that the map lacks, or asks for a range
abbrev pub TakesMemory : Pairs → Call → Type 0
TakesMemory m (Get key) = ⊥
TakesMemory m (Put key value) = lookup_at m key ≡ None
TakesMemory m (Del key) = ⊥
TakesMemory m (Window start most) = ⊥
TakesMemory m (Swap key want value) = ⊥
TakesMemory m (Range low bound) = Unit {0}

-- each reply is right for the map after the calls before it
abbrev pub AreReplies : Pairs → List Said → Type 0
AreReplies m [] = Unit {0}
AreReplies m (said ∷ history) = IsReply m said.call said.reply × AreReplies (after m said.call) history

-- the map after all calls
abbrev pub after_all : Pairs → List Said → Pairs
after_all m [] = m
after_all m (said ∷ history) = after_all (after m said.call) history
