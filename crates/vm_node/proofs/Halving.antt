-- The words of a node's left half.
use Rattle.std.proofs.Common.{◌≡◌, ◌≢◌, ℕ, ◌+◌, ◌*◌, ◌<◌, ◌≤◌, List, length, get_or, ◌==◌, nat_lt, if◌then◌else◌, ◌∙◌, arith, inl, inr}
use Rattle.std.proofs.lemmas.Bool.{cases_lt}
use Rattle.std.proofs.lemmas.Bool.Decides.{nat_tests}
use Rattle.std.proofs.lemmas.List.{get_or_past}
use Rattle.std.proofs.lemmas.List.FromFn.{length-map-range_with_len, get_or-map-range_with_len}
use Rattle.vm_page.specs.Sizes.{IsSize}
use Rattle.vm_node.specs.Halves.{half_of, left_half, left_word}
use Rattle.vm_node.proofs.Sizes.{whole, halves}

-- word k of the left half, of h pairs: what stays, and what is zero
kept_word : (words : List ℕ) (separator h k : ℕ) → 6 ≤ k → k < 8 + 2 * h
    → (if k == 1 then h else if k == 3 then separator else if k == 4 then 0 else if nat_lt k (8 + 2 * h) then get_or
    words k 0 else 0) ≡ get_or words k 0
kept_word words separator h k ge lt = grind (arith, nat_tests, ge, lt)

-- of the header the tag, the low fence, the level and the two zeros stay
head_word : (words : List ℕ) (separator h k : ℕ) → k < 8 → k ≢ 1 → k ≢ 3 → k ≢ 4
    → (if k == 1 then h else if k == 3 then separator else if k == 4 then 0 else if nat_lt k (8 + 2 * h) then get_or
    words k 0 else 0) ≡ get_or words k 0
head_word words separator h k lt first third fourth = grind (arith, nat_tests, lt, first, third, fourth)

zero_word : (words : List ℕ) (separator h k : ℕ) → 5 ≤ k → 8 + 2 * h ≤ k
    → (if k == 1 then h else if k == 3 then separator else if k == 4 then 0 else if nat_lt k (8 + 2 * h) then get_or
    words k 0 else 0) ≡ 0
zero_word words separator h k ge past = grind (arith, nat_tests, ge, past)

module _ (z : ℕ) (words : List ℕ) (separator : ℕ) where
  pub length-left_half : length (left_half z words separator) ≡ z
  length-left_half = length-map-range_with_len (λ i. left_word z words separator i) 0 z

  pub left_half-at : (i : ℕ) → i < z → get_or (left_half z words separator) i 0 ≡ left_word z words separator i
  left_half-at i lt = get_or-map-range_with_len (λ i. left_word z words separator i) 0 z i i 0 lt (omega arith)

  pub left-head : IsSize z → (k : ℕ) → k < 8 → k ≢ 1 → k ≢ 3 → k ≢ 4 → get_or (left_half z words separator) k 0 ≡ get_or words k 0
  left-head size k lt first third fourth =
      left_half-at k (omega (arith, lt, whole z size)) ∙ head_word words separator (half_of z) k lt first third fourth

  pub left-kept : IsSize z → (k : ℕ) → 6 ≤ k → k < 8 + 2 * half_of z → get_or (left_half z words separator) k 0 ≡ get_or words k 0
  left-kept size k ge lt = left_half-at k (omega (arith, lt, whole z size, halves z size)) ∙ kept_word words separator (half_of z) k ge lt

  pub left-zero : (k : ℕ) → 8 + 2 * half_of z ≤ k → get_or (left_half z words separator) k 0 ≡ 0
  left-zero k ge = elim (cases_lt k z) [
    | inl lt ↦ left_half-at k lt ∙ zero_word words separator (half_of z) k (omega (arith, ge)) ge
    | inr beyond ↦ get_or_past (left_half z words separator) k 0 (omega (arith, length-left_half, beyond))
  ]
