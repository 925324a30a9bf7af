-- The bits of bundle words, and the two parts of a translation word.
use Rattle.std.specs.Int.{bit_at}
use Rattle.std.proofs.Common.{⊎_elim, ◌%◌, ◌+◌, ◌-◌, ◌/◌, ◌<◌, ◌^◌, ◌∙◌, ◌≡◌, ◌≤◌, ap, arith, bit_and, false, min}
use Rattle.std.proofs.Common.{Some, suc, sym, true, zero, ℕ}
use Rattle.std.proofs.lemmas.Bool.{cases_eq, cases_lt, eq-eqb, ne_eqb}
use Rattle.std.proofs.lemmas.Bool.Decides.{nat_tests}
use Rattle.std.proofs.lemmas.Nat.Bits.{bit_at-lt, bit_at_and, bit_at_ones, bit_at_ones_above, same_from_bits}
use Rattle.vm_event.specs.Prelude.{AreLowest, frame_in, is_dirty, sum_below}
use Rattle.vm_event.proofs.Upd.{sum_below-past}

-- what is 0 from k on adds nothing
sum-cut : (m k : ℕ) (g : ℕ → ℕ) → k ≤ m → ((i : ℕ) → k ≤ i → g i ≡ 0) → sum_below m g ≡ sum_below k g
unfolding sum_below
sum-cut zero k g le none = let e : k ≡ 0 = omega arith in ap (λ n. sum_below n g) (sym e)
sum-cut (suc m) k g le none =
    ⊎_elim
    (λ e. ap (λ n. sum_below n g) (sym e))
    (λ ne. let below : sum_below m g ≡ sum_below k g = sum-cut m k g (omega arith) none in
    let last : g m ≡ 0 = none m (omega arith) in
    omega arith)
    (cases_eq k (suc m))

sum-more : (m k : ℕ) (g : ℕ → ℕ) → k ≤ m → sum_below k g ≤ sum_below m g
unfolding sum_below
sum-more zero k g le = let e : k ≡ 0 = omega arith in rw e (omega arith)
sum-more (suc m) k g le =
    ⊎_elim
    (λ e. rw e (omega arith))
    (λ ne. let below : sum_below k g ≤ sum_below m g = sum-more m k g (omega arith) in omega arith)
    (cases_eq k (suc m))

-- the bits below k
low-bit : (word k i : ℕ) → i < k → bit_at (bit_and word (2 ^ k - 1)) i ≡ bit_at word i
low-bit word k i lt =
    let small : bit_at word i < 2 = bit_at-lt word i in
    let one : bit_at (2 ^ k - 1) i ≡ 1 = bit_at_ones k i lt in
    bit_at_and word (2 ^ k - 1) i ∙ (let e : min (bit_at word i) (bit_at (2 ^ k - 1) i) ≡ bit_at word i = omega arith in e)

high-bit : (word k i : ℕ) → k ≤ i → bit_at (bit_and word (2 ^ k - 1)) i ≡ 0
high-bit word k i le =
    let none : bit_at (2 ^ k - 1) i ≡ 0 = bit_at_ones_above k i le in
    bit_at_and word (2 ^ k - 1) i ∙ (let e : min (bit_at word i) (bit_at (2 ^ k - 1) i) ≡ 0 = omega arith in e)

-- where the n-th set bit lies below k, the bits below k are the n lowest
pub lowest-below : (word n k : ℕ) → k ≤ 64 → sum_below k (bit_at word) ≡ n → AreLowest word n (bit_and word (2 ^ k - 1))
lowest-below word n k le e =
    let cut : sum_below 64 (bit_at (bit_and word (2 ^ k - 1))) ≡ sum_below k (bit_at word) =
    sum-cut 64 k (bit_at (bit_and word (2 ^ k - 1))) le (high-bit word k) ∙ sum_below-past k _ _ (low-bit word k) in
    let more : sum_below k (bit_at word) ≤ sum_below 64 (bit_at word) = sum-more 64 k (bit_at word) le in
    record {
      among = same_from_bits _ _ (λ i. bit_at_and _ word i ∙ part i);
      count = cut ∙ (let m : sum_below k (bit_at word) ≡ min n (sum_below 64 (bit_at word)) = omega arith in m);
      lowest = λ i j t w l. ⊎_elim
          (λ lt. absurd (let one : bit_at (bit_and word (2 ^ k - 1)) j ≡ bit_at word j = low-bit word k j lt in omega arith))
          (λ high. ⊎_elim (λ lt. omega arith)
          (λ past. absurd (let none : bit_at (bit_and word (2 ^ k - 1)) i ≡ 0 = high-bit word k i past in
          omega arith)) (cases_lt i k))
          (cases_lt j k);
    }
  where
    part : (i : ℕ) → min (bit_at (bit_and word (2 ^ k - 1)) i) (bit_at word i) ≡ bit_at (bit_and word (2 ^ k - 1)) i
    part i =
        let e' : bit_at (bit_and word (2 ^ k - 1)) i ≡ min (bit_at word i) (bit_at (2 ^ k - 1) i) = bit_at_and word (2 ^ k - 1) i in
        omega arith

-- one bit more is looked at
pub sum-next : (word k : ℕ) → sum_below (k + 1) (bit_at word) ≡ sum_below k (bit_at word) + bit_at word k
unfolding sum_below
sum-next word k = let e : k + 1 ≡ suc k = omega arith in ap (λ n. sum_below n (bit_at word)) e

-- the frame and the dirty bit of a translation word
pub frame-of : (word f : ℕ) → f < 2 ^ 32 → word % 2 ^ 63 ≡ f + 1 → frame_in word ≡ Some f
unfolding frame_in
frame-of word f lt e = rw e (grind (arith, nat_tests, lt))

pub top-set : (word : ℕ) → word / 2 ^ 63 ≡ 1 → is_dirty word ≡ true
unfolding is_dirty
top-set word e = eq-eqb _ 1 e

pub top-clear : (word : ℕ) → word / 2 ^ 63 ≡ 0 → is_dirty word ≡ false
unfolding is_dirty
top-clear word e = ne_eqb _ 1 (λ one. absurd (omega arith))
