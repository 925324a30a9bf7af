-- How much room a page has left whose keys are words: a place for each pair that is not there.
use Rattle.std.proofs.Common.{◌≡◌, ◌+◌, ◌-◌, ◌<◌, arith, get_or, length, length-take, List, min, ℕ}
use Rattle.vm_tree_model.specs.{Layout.IsClean, Layout.size}
use Rattle.vm_tree_model.specs.Fixed.{capacity, fixed, fixed_node, fixed_pairs, places}
use Rattle.vm_tree_model.proofs.FixedLaws.{ones_are}

-- as many places are left as pairs are missing
abbrev pub spare_in : ℕ → List ℕ → ℕ
spare_in n words = capacity n - length (fixed_pairs n words)

module _ (n : ℕ) (words : List ℕ) where
  pub spare_is : IsClean (fixed n) words → spare_in n words + size (fixed n) (fixed_node n words) ≡ capacity n
  spare_is clean = omega (arith, ones_are (fixed_pairs n words), length-take (min (get_or words 1 0) (capacity n)) (places words))

  -- none is left where a further pair exceeds the capacity, and back
  pub spare_none : capacity n < size (fixed n) (fixed_node n words) + 1 → spare_in n words < 1
  spare_none full = omega (arith, full, ones_are (fixed_pairs n words))

  pub spare_full : spare_in n words < 1 → capacity n < size (fixed n) (fixed_node n words) + 1
  spare_full none = omega (arith, none, ones_are (fixed_pairs n words))
