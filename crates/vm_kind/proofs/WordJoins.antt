-- What leaves whose keys are words take of a node's room, alone and as one.
use Rattle.std.proofs.Common.{◌≡◌, ℕ, ◌+◌, ◌*◌, ◌/◌, ◌≤◌, List, length, ◌++◌, arith, length-append}
use Rattle.vm_tree_model.specs.Layout.{size}
use Rattle.vm_tree_model.specs.Fixed.{capacity, fixed, fixed_node, fixed_pairs}
use Rattle.vm_tree_model.proofs.FixedLaws.{ones_are}
use Rattle.vm_kind.specs.Joins.{both_as_one}

pub size_is_count : (n : ℕ) (words : List ℕ) → size (fixed n) (fixed_node n words) ≡ length (fixed_pairs n words)
size_is_count n words = omega (arith, ones_are (fixed_pairs n words))

pub both_count : (n : ℕ) (left right : List ℕ) → size (fixed n) (both_as_one (fixed n) left right) ≡ length
    (fixed_pairs n left) + length (fixed_pairs n right)
both_count n left right =
    omega (
      arith,
      ones_are (fixed_pairs n left ++ fixed_pairs n right),
      length-append (fixed_pairs n left)
          (fixed_pairs n right),
    )

-- a page has place for leaves that may become one
pub both_fit : (n : ℕ) (left right : List ℕ) → size (fixed n) (both_as_one (fixed n) left right) ≤ capacity n * 5 / 7
    → length (fixed_pairs n left) + length (fixed_pairs n right) ≤ capacity n
both_fit n left right few = omega (arith, few, both_count n left right)
