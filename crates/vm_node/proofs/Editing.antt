-- The words of an edited page.
use Rattle.std.proofs.Common.{◌≡◌, ℕ, ◌+◌, ◌*◌, ◌<◌, ◌≤◌, List, length, get_or, set, min, refl, sym, ◌∙◌, arith, inl}
use Rattle.std.proofs.Common.{inr, length-set, get_or-set_other}
use Rattle.std.proofs.lemmas.Bool.{cases_lt, cases_eq}
use Rattle.std.proofs.lemmas.Bool.Decides.{nat_tests}
use Rattle.std.proofs.lemmas.Grind.{get_or-set_at}
use Rattle.std.proofs.lemmas.List.{get_or_past}
use Rattle.std.proofs.lemmas.List.FromFn.{length-map-range_with_len, get_or-map-range_with_len, fill_by_all}
use Rattle.vm_page.specs.Sizes.{IsSize}
use Rattle.vm_tree_model.specs.Fixed.{capacity}
use Rattle.vm_node.proofs.Sizes.{whole}
use Rattle.vm_node.specs.declared.edit.Edit.{Edit}
use Rattle.vm_node.specs.declared.edit.Edit.TheVariants.{Over, Into, Out}
use Rattle.vm_node.specs.Edited.{word_over, word_into, word_out, edited_word, edited}
use Rattle.vm_node.proofs.Puts.{IsShiftedIn}
use Rattle.vm_node.proofs.Dels.{IsShiftedOut}

module _ (z : ℕ) (words : List ℕ) (edit : Edit) where
  pub length-edited : length (edited z words edit) ≡ z
  length-edited = length-map-range_with_len (λ i. edited_word z words edit i) 0 z

  pub edited-at : (i : ℕ) → i < z → get_or (edited z words edit) i 0 ≡ edited_word z words edit i
  edited-at i lt = get_or-map-range_with_len (λ i. edited_word z words edit i) 0 z i i 0 lt (omega arith)

  -- a page with these words is the edited one
  pub edited_is : (page : List ℕ) → length page ≡ z → ((i : ℕ) → i < z → get_or page i 0 ≡ edited_word z words edit i)
      → page ≡ edited z words edit
  edited_is page len each = fill_by_all (λ i. edited_word z words edit i) page z 0 len each

  -- behind the page there is nothing, before the edit and after
  past : length words ≡ z → (i : ℕ) → z ≤ i → get_or (edited z words edit) i 0 ≡ get_or words i 0
  past len i ge = get_or_past (edited z words edit) i 0 (omega (arith, length-edited, ge))
      ∙ sym (get_or_past words i 0 (omega (arith, len, ge)))

module _ (z : ℕ) (size : IsSize z) (words : List ℕ) (len : length words ≡ z) where
  long : z ≡ 2 * capacity z + 8
  long = whole z size

  -- a value that is written over is one word
  pub over_is : (at value : ℕ) → at < capacity z → edited z words (Over at value) ≡ set words (9 + 2 * at) value
  over_is at value lt = sym
      (edited_is z words (Over at value) (set words (9 + 2 * at) value) (length-set words (9 + 2 * at) value ∙ len)
      each)
    where
      each : (i : ℕ) → i < z → get_or (set words (9 + 2 * at) value) i 0 ≡ word_over words at value i
      each i in_page = elim (cases_eq i (9 + 2 * at)) [
        | inl here ↦ get_or-set_at words (9 + 2 * at) i value 0 here (omega (arith, long, lt, len)) ∙ grind (arith, nat_tests, here)
        | inr other ↦ get_or-set_other words (9 + 2 * at) i value 0 other ∙ grind (arith, nat_tests, other)
      ]

  module _ (at n key value : ℕ) (count : n ≡ min (get_or words 1 0) (capacity z)) (place : at ≤ n) (room : n < capacity z) where
    into_word : (i : ℕ) → i < z → get_or (edited z words (Into at n key value)) i 0 ≡ word_into words at n key value i
    into_word i lt = let least : min n (capacity z) ≡ n = omega arith in edited-at z words (Into at n key value) i lt ∙ rw least refl

    -- a pair that goes in makes room for itself
    pub into_is : IsShiftedIn z words (edited z words (Into at n key value)) at n key value
    into_is = record {
      old_length = len;
      new_length = length-edited z words (Into at n key value);
      count = count;
      place = place;
      room = room;
      more = into_word 1 (omega (arith, long));
      below = λ k ne lt. into_word k (omega (arith, long, place, room)) ∙ grind (arith, nat_tests);
      has_key = into_word (8 + 2 * at) (omega (arith, long, place, room)) ∙ grind (arith, nat_tests);
      has_value = into_word (9 + 2 * at) (omega (arith, long, place, room)) ∙ grind (arith, nat_tests);
      moved = λ k ge lt. into_word (k + 2) (omega (arith, long, place, room, lt)) ∙ grind (arith, nat_tests);
      rest = λ k ge. elim (cases_lt k z) [
        | inl lt ↦ into_word k lt ∙ grind (arith, nat_tests)
        | inr beyond ↦ past z words (Into at n key value) len k beyond
      ];
    }

  module _ (at n : ℕ) (count : n ≡ min (get_or words 1 0) (capacity z)) (place : at < n) where
    out_word : (i : ℕ) → i < z → get_or (edited z words (Out at n)) i 0 ≡ word_out words at n i
    out_word i lt = let least : min n (capacity z) ≡ n = omega arith in edited-at z words (Out at n) i lt ∙ rw least refl

    -- a pair that goes out leaves no gap
    pub out_is : IsShiftedOut z words (edited z words (Out at n)) at n
    out_is = record {
      old_length = len;
      new_length = length-edited z words (Out at n);
      count = count;
      place = place;
      fewer = out_word 1 (omega (arith, long));
      below = λ k ne lt. out_word k (omega (arith, long, place, count, lt)) ∙ grind (arith, nat_tests);
      moved = λ k ge lt. out_word k (omega (arith, long, place, count, lt)) ∙ grind (arith, nat_tests);
      zero_above = λ k ge lt. out_word k (omega (arith, long, place, count, lt)) ∙ grind (arith, nat_tests);
      rest = λ k ge. elim (cases_lt k z) [
        | inl lt ↦ out_word k lt ∙ grind (arith, nat_tests)
        | inr beyond ↦ past z words (Out at n) len k beyond
      ];
    }
