-- The bits of a bundle's word and the frames that they are of, gathered from a list into a mask, one at a time. Some
-- bits are asked of a word that is not 0.
use Rattle.vm_supply.proofs.from_vm_step.Masks.{mask-count, no-bit}
use Rattle.vm_exmap.proofs.Prelude.{[], ap, AreLowest, arith, bit_at, bit_at-lt, bit_at-pow_other, bit_at-pow_same}
use Rattle.vm_exmap.proofs.Prelude.{bit_at-zero, bit_at_or, bit_count, bit_or, cases_eq, eqb, false, frames_in, has}
use Rattle.vm_exmap.proofs.Prelude.{has-both, in_mask, is_of, length, List, max, nat_tests, same_from_bits_below}
use Rattle.vm_exmap.proofs.Prelude.{sum_below-at, sym, ℕ, ⊎_elim, ◌%◌, ◌&&◌, ◌++◌, ◌/◌, ◌<◌, ◌^◌, ◌||◌, ◌∙◌, ◌∷◌, ◌≡◌}
use Rattle.vm_exmap.proofs.Prelude.{◌≢◌, ◌≤◌}

-- ---- from a list into a mask

has-last : (f x : ℕ) (l : List ℕ) → has f (l ++ x ∷ []) ≡ (has f l || (eqb f x || false))
has-last f x l = has-both f l (x ∷ [])

-- one more frame of the bundle: its bit is set
pub mask-more : (g mask x : ℕ) (l : List ℕ) → x / 64 ≡ g → ((f : ℕ) → in_mask g mask f ≡ is_of g l f) → (f : ℕ)
    → in_mask g (bit_or mask (2 ^ (x % 64))) f ≡ is_of g (l ++ x ∷ []) f
unfolding in_mask
mask-more g mask x l of same f =
    let both : bit_at (bit_or mask (2 ^ (x % 64))) (f % 64) ≡ max (bit_at mask (f % 64))
    (bit_at (2 ^ (x % 64)) (f % 64)) = bit_at_or mask (2 ^ (x % 64)) (f % 64) in
    let small : bit_at mask (f % 64) < 2 = bit_at-lt mask (f % 64) in
    let last = has-last f x l in
    let was = same f in
    ⊎_elim
    (λ (e : f ≡ x).
    let set : bit_at (2 ^ (x % 64)) (f % 64) ≡ 1 = ap (λ n. bit_at (2 ^ (x % 64)) (n % 64)) e ∙ bit_at-pow_same (x % 64) in
    grind (arith, nat_tests, both, small, last, was, set, e, of))
    (λ (ne : f ≢ x).
    ⊎_elim
    (λ (here : f / 64 ≡ g).
    let clear : bit_at (2 ^ (x % 64)) (f % 64) ≡ 0 = bit_at-pow_other (x % 64) (f % 64) (λ m. ne (omega (arith, m, here, of))) in
    grind (arith, nat_tests, both, small, last, was, clear, ne, here))
    (λ (other : f / 64 ≢ g). grind (arith, nat_tests, other))
    (cases_eq (f / 64) g))
    (cases_eq f x)

-- a frame of another bundle
pub mask-same : (g mask x : ℕ) (l : List ℕ) → x / 64 ≢ g → ((f : ℕ) → in_mask g mask f ≡ is_of g l f) → (f : ℕ)
    → in_mask g mask f ≡ is_of g (l ++ x ∷ []) f
mask-same g mask x l of same f =
    let last = has-last f x l in
    let was = same f in
    ⊎_elim (λ (e : f ≡ x). (let other : f / 64 ≢ g = λ here. of (ap (λ n. n / 64) (sym e) ∙ here) in
    grind (arith, nat_tests, was, other))) (λ (ne : f ≢ x). grind (arith, nat_tests, last, was, ne))
    (cases_eq f x)

-- no bit is set in the mask of no frame
pub mask-none : (g f : ℕ) → in_mask g 0 f ≡ is_of g [] f
unfolding in_mask
mask-none g f = ap (λ n. eqb (f / 64) g && eqb n 1) (bit_at-zero (f % 64))

-- ---- bits asked of a word

-- a word that is not 0 has a bit set
some-bit : (word : ℕ) → word < 2 ^ 64 → word ≢ 0 → 1 ≤ bit_count word
some-bit word small ne =
    ⊎_elim
    (λ (none : bit_count word ≡ 0).
    absurd (ne (same_from_bits_below 64 word 0 small (omega arith) (λ i l. let low : bit_at word i ≤ bit_count word =
    sum_below-at 64 (bit_at word) i l in (let e : bit_at word i ≡ 0 = omega (arith, none, low) in e)
    ∙ sym (bit_at-zero i)))))
    (λ (some : bit_count word ≢ 0). omega (arith, some))
    (cases_eq (bit_count word) 0)

-- the lowest bits of it are not none
pub some-lowest : (word most mask : ℕ) → word < 2 ^ 64 → word ≢ 0 → 1 ≤ most → AreLowest word most mask → mask ≢ 0
some-lowest word most mask small ne some low e =
    let bits : 1 ≤ bit_count word = some-bit word small ne in
    let none : bit_count mask ≡ 0 = ap bit_count e ∙ no-bit in
    absurd (omega (arith, bits, none, some, low.count))

-- the frames of the lowest bits of a word that is not 0 are not none
pub some-taken : (word most mask g : ℕ) → word < 2 ^ 64 → word ≢ 0 → 1 ≤ most → AreLowest word most mask → 1 ≤ length (frames_in g mask)
some-taken word most mask g small ne some low =
    let bits : 1 ≤ bit_count word = some-bit word small ne in
    let count : length (frames_in g mask) ≡ bit_count mask = mask-count g mask in
    omega (arith, bits, some, low.count, count)
