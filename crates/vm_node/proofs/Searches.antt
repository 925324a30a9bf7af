-- A search by halves looks at as many keys as the capacity has bits.
use Rattle.std.proofs.Common.{◌≡◌, ℕ, ◌+◌, ◌-◌, ◌*◌, ◌/◌, ◌^◌, ◌<◌, ◌≤◌, List, [], ◌∷◌, length, get_or, subst, ◌∙◌}
use Rattle.std.proofs.Common.{arith, MatchOption, None, Option, Some}
use Rattle.vm_map.specs.Map.{Pairs}
use Rattle.vm_tree_model.specs.Fixed.{fixed_pairs, capacity}
use Rattle.vm_page.specs.Sizes.{IsSize}
use Rattle.vm_node.specs.Sizes.{looks_for}
use Rattle.vm_node.proofs.Sizes.{few, halved}
use Rattle.vm_node.specs.Loads.{Tells}
use Rattle.vm_node.specs.Places.{HasSides, IsBound}
use Rattle.vm_node.proofs.ReadPairs.{key_is}
use Rattle.vm_node.proofs.Telling.{Joins, told_none, told_word, told_then, told_so}

-- the pair before `from` has a lower key, and the one at `upto` has none; these are the two keys
pub record IsNarrowed (pairs : Pairs) (key from upto low : ℕ) (next : Option ℕ) : Type 0 where
  pub before : (i : ℕ) → i + 1 ≡ from → (get_or pairs i (0, 0)).0 < key
  pub here : upto < length pairs → key ≤ (get_or pairs upto (0, 0)).0
  pub low_is : (i : ℕ) → i + 1 ≡ from → (get_or pairs i (0, 0)).0 ≡ low
  pub next_is : MatchOption next (upto ≡ length pairs) (λ k. (upto < length pairs) × ((get_or pairs upto (0, 0)).0 ≡ k))

-- some number of looks led here, and what they tell
pub record IsSearched (n : ℕ) {P : Type 0} (loads : P → List (ℕ × ℕ) → P → Type 0) (p q : P)
    (count key from upto low : ℕ) (next : Option ℕ) : Type 0 where
  pub looks : ℕ
  pub few : looks ≤ looks_for n
  pub left : upto - from < 2 ^ (looks_for n - looks)
  pub told : Tells n loads p looks q (λ words. count ≡ length (fixed_pairs n words)
      → IsNarrowed (fixed_pairs n words) key from upto low next)

pub search_begins : {n : ℕ} {P : Type 0} {loads : P → List (ℕ × ℕ) → P → Type 0} {p : P} {count key : ℕ}
    → loads p [] p → IsSize n → count ≤ capacity n → IsSearched n loads p p count key 0 count 0 None
search_begins {n = n} through is fits = record {
  looks = 0;
  few = omega arith;
  left = (let zero_looks : looks_for n - 0 ≡ looks_for n = omega arith in rw zero_looks (omega (arith, few n is, fits)));
  told = told_none through (λ words size is. record {
    before = λ i e. absurd (omega arith);
    here = λ lt. absurd (omega arith);
    low_is = λ i e. absurd (omega arith);
    next_is = is;
  });
}

module _ {n : ℕ} {P : Type 0} {loads : P → List (ℕ × ℕ) → P → Type 0} {p q : P} {count key from upto low : ℕ} {next : Option ℕ} where
  pub search_ends : IsSearched n loads p q count key from upto low next → from ≤ upto → upto ≤ from → upto ≤ count
      → Tells n loads p (looks_for n) q (λ words. count ≡ length (fixed_pairs n words)
      → IsBound (fixed_pairs n words) key from × HasSides (fixed_pairs n words) from low next)
  search_ends is le ge inside = told_so is.few is.told (λ words size narrowed all. let m = narrowed all in (
    record {
      inside = omega (arith, all);
      before = m.before;
      here = λ lt. subst (λ (i : ℕ). key ≤ (get_or (fixed_pairs n words) i (0, 0)).0) (antisym le ge) (m.here (omega (arith, lt)));
    },
    record {
      before = m.low_is;
      here = subst (λ (i : ℕ). MatchOption next (i ≡ length (fixed_pairs n words))
          (λ k. (i < length (fixed_pairs n words)) × ((get_or (fixed_pairs n words) i (0, 0)).0 ≡ k))) (antisym le ge)
          m.next_is;
    },
  ))
    where
      antisym : from ≤ upto → upto ≤ from → upto ≡ from
      antisym a b = omega arith

module _ {n : ℕ} (size_of : IsSize n) {P : Type 0} {loads : P → List (ℕ × ℕ) → P → Type 0} {p q r : P}
    {count key from upto low middle x : ℕ} {next : Option ℕ} (join : Joins loads)
    (is : IsSearched n loads p q count key from upto low next) (some : from < upto) (inside : upto ≤ count)
    (place : middle ≡ from + (upto - from) / 2)
    (look : loads q ((8 + 2 * middle, x) ∷ []) r) where
  more : (j : ℕ) × (looks_for n - is.looks ≡ j + 1) × ((upto - from) / 2 < 2 ^ j)
  more = halved (upto - from) (looks_for n - is.looks) (omega (arith, some)) is.left

  pub search_right : x < key → IsSearched n loads p r count key (middle + 1) upto x next
  search_right below = record {
    looks = is.looks + 1;
    few = omega (arith, more.1);
    left = (let fewer : looks_for n - (is.looks + 1) ≡ more.0 = omega (arith, more.1) in rw fewer (omega (arith, more.2)));
    told = told_so (omega arith) (told_then join is.told (told_word look)) (λ words size told all. record {
      before = λ i e. let at : i ≡ middle = omega arith in
          rw at (rw (key_is n size_of words size middle (omega (arith, all)) ∙ told.1) below);
      here = (told.0 all).here;
      low_is = λ i e. let at : i ≡ middle = omega arith in rw at (key_is n size_of words size middle (omega (arith, all)) ∙ told.1);
      next_is = (told.0 all).next_is;
    });
  }

  pub search_left : key ≤ x → IsSearched n loads p r count key from middle low (Some x)
  search_left from_here = record {
    looks = is.looks + 1;
    few = omega (arith, more.1);
    left = (let fewer : looks_for n - (is.looks + 1) ≡ more.0 = omega (arith, more.1) in rw fewer (omega (arith, more.2)));
    told = told_so (omega arith) (told_then join is.told (told_word look)) (λ words size told all. record {
      before = (told.0 all).before;
      here = λ lt. rw (key_is n size_of words size middle lt ∙ told.1) from_here;
      low_is = (told.0 all).low_is;
      next_is = let inside : middle < length (fixed_pairs n words) = omega (arith, all) in
          (inside, key_is n size_of words size middle inside ∙ told.1);
    });
  }
