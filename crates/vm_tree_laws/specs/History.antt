-- The history of the tree: entries of calls with their replies, and when it is legal.
use Rattle.std.specs.Prelude.{ℕ, ◌+◌, List, [], ◌∷◌, map, None, Some}
use Rattle.vm_map.specs.Map.{Pairs}
use Rattle.vm_map.specs.History.{AreReplies}
use Rattle.vm_map.specs.declared.call.Said.{Said}
use Rattle.vm_map.specs.declared.call.Call.{Call}
use Rattle.vm_map.specs.declared.call.Call.TheVariants.{Del, Put}
use Rattle.vm_map.specs.declared.call.Reply.{Reply}
use Rattle.vm_map.specs.declared.call.Reply.TheVariants.{Gone, Was}
use Rattle.vm_owner.specs.declared.Entry.{Entry}
use Rattle.vm_owner.specs.Kept.{AreCounted}

-- the calls with their replies, in order
abbrev pub saids : List (Entry Said) → List Said
saids h = map (λ (e : Entry Said). e.said) h

-- each reply is right for the map after the calls before it, and each number's counts are 1, 2, 3 and so on
pub record IsLegal (m : Pairs) (h : List (Entry Said)) : Type 0 where
  pub replies : AreReplies m (saids h)
  pub counted : AreCounted (λ _. 0) h

-- 1 for a put that found no pair of its key
abbrev pub is_new : Call → Reply → ℕ
is_new (Put key value) (Was None) = 1
is_new _ _ = 0

-- how many puts found no pair of their key
abbrev pub news : List (Entry Said) → ℕ
news [] = 0
news (e ∷ h) = is_new e.said.call e.said.reply + news h

-- 1 for a del that gave a value
abbrev pub is_gone : Call → Reply → ℕ
is_gone (Del key) (Gone (Some value)) = 1
is_gone _ _ = 0

-- how many dels gave a value
abbrev pub gones : List (Entry Said) → ℕ
gones [] = 0
gones (e ∷ h) = is_gone e.said.call e.said.reply + gones h
