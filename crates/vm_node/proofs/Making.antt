-- A page's words are made one by one, in an order in which each word is read before it is written.
use Rattle.std.proofs.Common.{◌≡◌, ℕ, ◌+◌, ◌-◌, ◌<◌, ◌≤◌, List, length, get_or, map, set, refl, sym, ap, ◌∙◌, arith}
use Rattle.std.proofs.Common.{inl, inr, length-set, get_or-set_other}
use Rattle.std.proofs.lemmas.Bool.{cases_eq}
use Rattle.std.proofs.lemmas.Grind.{get_or-set_at}
use Rattle.std.specs.List.{range_with_len}
use Rattle.std.proofs.lemmas.List.FromFn.{fill_by_all}
use Rattle.vm_node.specs.Edited.{word_into, word_out}

-- the words below i are made
pub record IsMadeBelow (z : ℕ) (old now : List ℕ) (made_word : ℕ → ℕ) (i : ℕ) : Type 0 where
  pub length : 0 < i → length now ≡ z
  pub made : (k : ℕ) → k < i → get_or now k 0 ≡ made_word k
  pub left : (k : ℕ) → i ≤ k → get_or now k 0 ≡ get_or old k 0

-- the last words, this many, are made
pub record IsMadeAbove (z : ℕ) (old now : List ℕ) (made_word : ℕ → ℕ) (done : ℕ) : Type 0 where
  pub length : 0 < done → length now ≡ z
  pub made : (k : ℕ) → z ≤ k + done → k < z → get_or now k 0 ≡ made_word k
  pub left : (k : ℕ) → k + done < z → get_or now k 0 ≡ get_or old k 0

-- a pair that goes out moves words from above alone
pub out_reads : (now old : List ℕ) (at count i : ℕ) → ((k : ℕ) → i ≤ k → get_or now k 0 ≡ get_or old k 0)
    → word_out now at count i ≡ word_out old at count i
out_reads now old at count i same = rw (same i (omega arith), same (i + 2) (omega arith)) refl

-- a pair that goes in moves words from below alone
pub into_reads : (now old : List ℕ) (at count key value i : ℕ) → ((k : ℕ) → k ≤ i → get_or now k 0 ≡ get_or old k 0)
    → word_into now at count key value i ≡ word_into old at count key value i
into_reads now old at count key value i same = rw (same i (omega arith), same (i - 2) (omega arith)) refl

module _ {z : ℕ} {old now : List ℕ} {made_word : ℕ → ℕ} where
  pub below_more : {after : List ℕ} {i word : ℕ} → IsMadeBelow z old now made_word i → i < z → word ≡ made_word i
      → after ≡ set now i word → length after ≡ z → IsMadeBelow z old after made_word (i + 1)
  below_more {after = after} {i = i} {word = word} s lt is set_is size =
      let long : length now ≡ z = sym (length-set now i word) ∙ sym (ap (λ (l : List ℕ). length l) set_is) ∙ size in
      record {
        length = λ some. size;
        made = λ k below. ap (λ (l : List ℕ). get_or l k 0) set_is ∙ elim (cases_eq k i) [
          | inl here ↦ get_or-set_at now i k word 0 here (omega (arith, long)) ∙ rw here is
          | inr other ↦ get_or-set_other now i k word 0 other ∙ s.made k (omega (arith, below, other))
        ];
        left = λ k above. ap (λ (l : List ℕ). get_or l k 0) set_is ∙ get_or-set_other now i k word 0
            (omega (arith, above)) ∙ s.left k (omega (arith, above));
      }

  pub below_all : {i : ℕ} → 0 < z → IsMadeBelow z old now made_word i → z ≤ i → now ≡ map made_word (range_with_len 0 z)
  below_all some s all = fill_by_all made_word now z 0 (s.length (omega (arith, some, all))) (λ k lt. s.made k (omega arith))

  pub above_more : {after : List ℕ} (done i : ℕ) {word : ℕ} → IsMadeAbove z old now made_word done → i + done + 1 ≡ z
      → word ≡ made_word i → after ≡ set now i word → length after ≡ z → IsMadeAbove z old after made_word (done + 1)
  above_more {after = after} done i {word = word} s place is set_is size =
      let long : length now ≡ z = sym (length-set now i word) ∙ sym (ap (λ (l : List ℕ). length l) set_is) ∙ size in
      record {
        length = λ some. size;
        made = λ k above lt. ap (λ (l : List ℕ). get_or l k 0) set_is ∙ elim (cases_eq k i) [
          | inl here ↦ get_or-set_at now i k word 0 here (omega (arith, long, place)) ∙ rw here is
          | inr other ↦ get_or-set_other now i k word 0 other ∙ s.made k (omega (arith, above, other, place)) lt
        ];
        left = λ k below. ap (λ (l : List ℕ). get_or l k 0) set_is ∙ get_or-set_other now i k word 0
            (omega (arith, below, place)) ∙ s.left k (omega (arith, below));
      }

  pub above_all : {done : ℕ} → 0 < z → IsMadeAbove z old now made_word done → z ≤ done → now ≡ map made_word (range_with_len 0 z)
  above_all some s all = fill_by_all made_word now z 0 (s.length (omega (arith, some, all))) (λ k lt. s.made k (omega arith) lt)
