-- What the words of a new root say.
use Rattle.std.proofs.Common.{◌≡◌, ◌≢◌, ℕ, ◌+◌, ◌*◌, ◌^◌, ◌<◌, ◌≤◌, List, [], ◌∷◌, length, get_or, set, inr, refl}
use Rattle.std.proofs.Common.{◌∙◌, arith, length-set, get_or-set_same, get_or-set_other}
use Rattle.vm_map.specs.Map.{Pairs}
use Rattle.vm_page.specs.Sizes.{IsSize}
use Rattle.vm_tree_model.specs.Fixed.{fixed, fixed_pairs, capacity, high_of}
use Rattle.vm_tree_model.proofs.FixedLaws.{form_from}
use Rattle.vm_tree_model.proofs.WordTests.{zeros_past-from}
use Rattle.vm_node.proofs.Sizes.{whole, big}
use Rattle.vm_tree_model.proofs.PairWords.{length-pairs_of, pairs_of-at}
use Rattle.vm_tree_model.specs.Edits.{IsNewRoot}

two_of : (l : Pairs) (a b : ℕ × ℕ) → length l ≡ 2 → get_or l 0 (0, 0) ≡ a → get_or l 1 (0, 0) ≡ b → l ≡ a ∷ b ∷ []
two_of [] a b len first second = absurd (omega arith)
two_of (x ∷ []) a b len first second = absurd (omega arith)
two_of (x ∷ (y ∷ [])) a b len first second = λ i. first i ∷ second i ∷ []
two_of (x ∷ (y ∷ (z ∷ l))) a b len first second = absurd (omega arith)

module _ (z : ℕ) (size : IsSize z) (head : List ℕ) (level left separator right : ℕ) (long : length head ≡ z)
    (tag : get_or head 0 0 ≡ 3) (count : get_or head 1 0 ≡ 2) (low : get_or head 2 0 ≡ 0) (high : get_or head 3 0 ≡ 0)
    (endless : get_or head 4 0 ≡ 1) (level_is : get_or head 5 0 ≡ level) (zero : (i : ℕ) → 6 ≤ i → get_or head i 0 ≡ 0) where
  abbrev words : List ℕ
  words = set (set (set head 9 left) 10 separator) 11 right

  words_long : length words ≡ z
  words_long = length-set _ 11 right ∙ length-set _ 10 separator ∙ length-set head 9 left ∙ long

  same : (i : ℕ) → i ≢ 9 → i ≢ 10 → i ≢ 11 → get_or words i 0 ≡ get_or head i 0
  same i a b c = get_or-set_other (set (set head 9 left) 10 separator) 11 i right 0 c
      ∙ get_or-set_other (set head 9 left) 10 i separator 0 b ∙ get_or-set_other head 9 i left 0 a

  header : (i : ℕ) → i < 9 → get_or words i 0 ≡ get_or head i 0
  header i lt = same i (λ e. omega (arith, lt, e)) (λ e. omega (arith, lt, e)) (λ e. omega (arith, lt, e))

  ninth : get_or words 9 0 ≡ left
  ninth = get_or-set_other (set (set head 9 left) 10 separator) 11 9 right 0 (λ e. omega (arith, e))
      ∙ get_or-set_other (set head 9 left) 10 9 separator 0 (λ e. omega (arith, e)) ∙ get_or-set_same head 9 left 0
      (omega (arith, long, whole z size, big z size))

  tenth : get_or words 10 0 ≡ separator
  tenth = get_or-set_other (set (set head 9 left) 10 separator) 11 10 right 0 (λ e. omega (arith, e))
      ∙ get_or-set_same (set head 9 left) 10 separator 0
      (omega (arith, long, length-set head 9 left, whole z size, big z size))

  eleventh : get_or words 11 0 ≡ right
  eleventh = get_or-set_same (set (set head 9 left) 10 separator) 11 right 0
      (omega (
        arith,
        long,
        length-set head 9 left,
        length-set (set head 9 left) 10 separator,
        whole z size,
        big z size,
      ))

  two : get_or words 1 0 ≡ 2
  two = header 1 (omega arith) ∙ count

  eighth : get_or words 8 0 ≡ 0
  eighth = header 8 (omega arith) ∙ zero 8 (omega arith)

  pairs : fixed_pairs z words ≡ (0, left) ∷ (separator, right) ∷ []
  pairs = two_of (fixed_pairs z words) (0, left) (separator, right)
      (omega (arith, length-pairs_of z (capacity z) (whole z size) words words_long, two, big z size))
      (pairs_of-at z (capacity z) (whole z size) words words_long 0 (omega (arith, two, big z size)) ∙ (λ i. (eighth i, ninth i)))
      (pairs_of-at z (capacity z) (whole z size) words words_long 1 (omega (arith, two, big z size)) ∙ (λ i. (tenth i, eleventh i)))

  no_end : get_or words 4 0 ≡ 1
  no_end = header 4 (omega arith) ∙ endless

  high_is : high_of words ≡ 2 ^ 64
  high_is = rw no_end refl

  pub new_root_is : IsNewRoot (fixed z) words level left separator right
  new_root_is = record {
    node = let tag_is = header 0 (omega arith) ∙ tag in let level_at = header 5 (omega arith) ∙ level_is in
        let low_is = header 2 (omega arith) ∙ low in
        λ i. record { tag = tag_is i; level = level_at i; low = low_is i; high = high_is i; pairs = pairs i };
    clean = form_from z words (record {
      length = words_long;
      count = omega (arith, two, big z size);
      fence = inr (no_end, header 3 (omega arith) ∙ high);
      sixth = header 6 (omega arith) ∙ zero 6 (omega arith);
      seventh = header 7 (omega arith) ∙ zero 7 (omega arith);
      rest = zeros_past-from words (8 + 2 * get_or words 1 0)
          (λ i le. same i (λ e. omega (arith, le, two, e)) (λ e. omega (arith, le, two, e))
          (λ e. omega (arith, le, two, e)) ∙ zero i (omega (arith, le, two)));
    });
  }
