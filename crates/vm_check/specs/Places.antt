-- Places in the tree and keys as numbers.
use Rattle.std.specs.Prelude.{ℕ, ◌+◌, Option, Some, None}
use Rattle.vm_tree_model.specs.Walk.{Slot}
use Rattle.vm_check.specs.declared.slot.NodeSlot.{NodeSlot}

-- a fence's number, and the end of all keys where there is none
abbrev pub rank_or : {K : Type 0} → (K → ℕ) → ℕ → Option K → ℕ
rank_or rank end None = end
rank_or rank end (Some key) = rank key

-- the least number that may stand behind the last key, or at the low fence where there is none yet
abbrev pub least_after : {K : Type 0} → (K → ℕ) → ℕ → Option K → ℕ
least_after rank low None = low
least_after rank low (Some last) = rank last + 1

-- the place, with numbers for its fences
abbrev pub place : {K : Type 0} → (K → ℕ) → ℕ → NodeSlot K → Slot
place rank end s = record { page = s.page; level = s.level; low = rank s.low; high = rank_or rank end s.high }
