-- The least image of pages of 512 words: the relation can be met there too.
use Rattle.std.proofs.Common.{◌≡◌, ℕ, ◌-◌, List, [], ◌∷◌, ◌++◌, length, replicate, None, refl, arith}
use Rattle.vm_tree_model.specs.Fixed.{fixed}
use Rattle.vm_tree_model.specs.Reason.{walk, reason}
use Rattle.vm_tree_model.proofs.Theorem.{no_reason}
use Rattle.vm_tree_model.proofs.FixedLaws.{layout_512}
use Rattle.vm_owner.specs.Kept.{Start, first_kept}
use Rattle.vm_tree_laws.specs.Keeps.{KeepsTree}
use Rattle.vm_tree_laws.proofs.Starts.{start_keeps}

abbrev pub large_from : List ℕ → List ℕ
large_from front = front ++ replicate (512 - length front) 0

-- page 0 of the second version, an empty leaf, two pages that are not used
abbrev pub large : List (List ℕ)
large = large_from (0x564D434143484532 ∷ 1 ∷ 0 ∷ []) ∷ large_from (2 ∷ 0 ∷ 0 ∷ 0 ∷ 1 ∷ []) ∷ replicate 2 (replicate 512 0)

large_fault : reason (fixed 512) large ≡ None
unfolding walk
large_fault = refl

abbrev pub large_start : Start
large_start = record { pages = large; next = 2; free = [] }

pub large_keeps : KeepsTree (fixed 512) large_start (first_kept large_start)
large_keeps = start_keeps (fixed 512) layout_512 large_start ((no_reason (fixed 512) layout_512 large).0 large_fault) (omega arith)
