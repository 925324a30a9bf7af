-- Masks over free-number words: the bits that are of pages, the rows past the last actor, and the words that are all 0.
use Rattle.std.specs.Cmp.Lexicographic.{pointwise}
use Rattle.std.specs.Int.{bit_at}
use Rattle.std.proofs.Common.{[], ⊎_elim, ◌%◌, ◌&&◌, ◌*◌, ◌+◌, ◌-◌, ◌/◌, ◌<◌, ◌^◌, ◌∙◌, ◌∷◌, ◌≡◌, ◌≤◌, ap, arith, eqb, false, length, List}
use Rattle.std.proofs.Common.{refl, replicate, subst, sym, true, ℕ}
use Rattle.std.proofs.lemmas.Bool.{and_from, and_parts, cases_eq, cases_lt, eq-eqb, eqb-true}
use Rattle.std.proofs.lemmas.Nat.{div-add-mod', pow_pos}
use Rattle.std.proofs.lemmas.Nat.Bits.{bit_at-lt, bit_at-zero, bit_at_above, bit_at_cat_high, same_from_bits}
use Rattle.std.proofs.Math.ListN.{get_or-eq_default}
use Rattle.std.proofs.Math.Nat.{lt-div-mul-add, mod-lt}
use Rattle.vm_page.specs.Pages.{all_zero}
use Rattle.vm_event.specs.Prelude.{at, has_free_bit, in_mask}
use Rattle.vm_core.specs.Prelude.{held_of}
use Rattle.vm_event.proofs.At.{at-get}
use Rattle.vm_core.proofs.Starting.{none-free}

-- the bit of a number that a mask has
bit-of : (g m p : ℕ) → in_mask g m p ≡ true → (p / 64 ≡ g) × (bit_at m (p % 64) ≡ 1)
unfolding in_mask
bit-of g m p q = let parts : (eqb (p / 64) g ≡ true) × (eqb (bit_at m (p % 64)) 1 ≡ true) = and_parts _ _ q in
    (eqb-true _ _ parts.0, eqb-true _ _ parts.1)

of-bit : (g m i : ℕ) → i < 64 → bit_at m i ≡ 1 → in_mask g m (64 * g + i) ≡ true
unfolding in_mask
of-bit g m i lt one =
    let q : (64 * g + i) / 64 ≡ g = omega (arith, lt) in
    let r : (64 * g + i) % 64 ≡ i = omega (arith, lt) in
    and_from _ _ (eq-eqb _ _ q) (eq-eqb _ _ (ap (bit_at m) r ∙ one))

-- the numbers of a mask stand in one word
pub mask-below : (g m p : ℕ) → in_mask g m p ≡ true → p < 64 * g + 64
mask-below g m p q = let e = (bit-of g m p q).0 in omega (arith, e)

-- the bits from k on, seen from k
bit-shifted : (m k i : ℕ) → bit_at (m / 2 ^ k) i ≡ bit_at m (i + k)
bit-shifted m k i =
    let back : i + k - k ≡ i = omega arith in
    ap (bit_at (m / 2 ^ k)) (sym back)
    ∙ sym (bit_at_cat_high (m / 2 ^ k) k (m % 2 ^ k) (i + k) (mod-lt m (pow_pos k)) (omega arith))
    ∙ ap (λ v. bit_at v (i + k)) (div-add-mod' m (2 ^ k))

-- a number that has no bit from k on is below 2 ^ k
small-mask : (m k : ℕ) → m / 2 ^ k ≡ 0 → m < 2 ^ k
small-mask m k e =
    let more : m < 0 * 2 ^ k + 2 ^ k = subst (λ x. m < x * 2 ^ k + 2 ^ k) e (lt-div-mul-add (pow_pos k)) in
    omega (arith, more)

-- where the word has k pages, the numbers of a mask are of pages exactly where it has no bit from k on
pub mask-pages : (g m n k : ℕ) → n ≡ 64 * g + k → m < 2 ^ 64
    → (m / 2 ^ k ≡ 0 → (p : ℕ) → in_mask g m p ≡ true → p < n)
    × (((p : ℕ) → in_mask g m p ≡ true → p < n) → m / 2 ^ k ≡ 0)
mask-pages g m n k e fits = (
  (λ none p q. let bit = bit-of g m p q in
      ⊎_elim (λ lt. omega (arith, e, bit.0, lt))
      (λ le. absurd (let no : bit_at m (p % 64) ≡ 0 = bit_at_above m k (p % 64) (small-mask m k none) le in omega (arith, no, bit.1)))
      (cases_lt (p % 64) k)),
  (λ inside. same_from_bits (m / 2 ^ k) 0 (λ i. bit-shifted m k i ∙ unset inside (i + k) (omega arith) ∙ sym (bit_at-zero i))),
)
  where
    unset : ((p : ℕ) → in_mask g m p ≡ true → p < n) → (j : ℕ) → k ≤ j → bit_at m j ≡ 0
    unset inside j le =
        let small : bit_at m j < 2 = bit_at-lt m j in
        ⊎_elim
        (λ lt. ⊎_elim
        (λ one. absurd (let below : 64 * g + j < n = inside (64 * g + j) (of-bit g m j lt one) in omega (arith, e, le, below)))
        (λ ne. omega (arith, small, ne))
        (cases_eq (bit_at m j) 1))
        (λ high. bit_at_above m 64 j fits high)
        (cases_lt j 64)

-- past the last actor nothing is held
pub held-past : (rows : List (List ℕ)) (b f : ℕ) → length rows ≤ b → held_of rows b f ≡ false
held-past rows b f le = ap (λ row. has_free_bit (at 0 row) f) (at-get [] rows b ∙ get_or-eq_default rows [] le) ∙ none-free 0 f

zeros-are : (ws : List ℕ) → pointwise eqb ws (replicate (length ws) 0) ≡ all_zero ws
zeros-are [] = refl
zeros-are (w ∷ ws) = ap (λ rest. eqb w 0 && rest) (zeros-are ws)

-- a comparison with as many words of 0
pub zero-words : (n : ℕ) (ws : List ℕ) → length ws ≡ n → pointwise eqb ws (replicate n 0) ≡ all_zero ws
zero-words n ws len = subst (λ k. pointwise eqb ws (replicate k 0) ≡ all_zero ws) len (zeros-are ws)
