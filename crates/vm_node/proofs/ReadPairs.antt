-- A pair of a page from its two words.
use Rattle.std.proofs.Common.{◌≡◌, ℕ, ◌+◌, ◌*◌, ◌<◌, List, length, get_or, ap, arith}
use Rattle.vm_tree_model.specs.Fixed.{fixed_pairs, capacity}
use Rattle.vm_tree_model.proofs.PairWords.{length-pairs_of, pairs_of-at}
use Rattle.vm_page.specs.Sizes.{IsSize}
use Rattle.vm_node.proofs.Sizes.{whole}

module _ (n : ℕ) (is : IsSize n) (words : List ℕ) (size : length words ≡ n) (i : ℕ) (inside : i < length (fixed_pairs n words)) where
  pub pair_is : get_or (fixed_pairs n words) i (0, 0) ≡ (get_or words (8 + 2 * i) 0, get_or words (9 + 2 * i) 0)
  pair_is = pairs_of-at n (capacity n) (whole n is) words size i
      (omega (arith, inside, length-pairs_of n (capacity n) (whole n is) words size))

  pub key_is : (get_or (fixed_pairs n words) i (0, 0)).0 ≡ get_or words (8 + 2 * i) 0
  key_is = ap (λ (e : ℕ × ℕ). e.0) pair_is

  pub value_is : (get_or (fixed_pairs n words) i (0, 0)).1 ≡ get_or words (9 + 2 * i) 0
  value_is = ap (λ (e : ℕ × ℕ). e.1) pair_is
