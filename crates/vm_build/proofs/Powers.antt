-- The sum 1 + a + a ^ 2 + .. of k powers, for a one above a multiple of four: where 2 ^ n divides it, 2 ^ n divides k.
use Rattle.std.proofs.Common.{◌≡◌, ℕ, zero, suc, ◌+◌, ◌*◌, ◌/◌, ◌%◌, ◌^◌, ◌<◌, refl, sym, ◌∙◌, ap, subst, arith}
use Rattle.std.proofs.Math.Nat.{pow-succ'}

-- the sum of the first k powers of 4 * b + 1
pub powers : ℕ → ℕ → ℕ
powers b zero = 0
powers b (suc k) = (4 * b + 1) * powers b k + 1

pub powers-zero : (b : ℕ) → powers b zero ≡ 0
unfolding powers
powers-zero b = refl

pub powers-suc : (b k : ℕ) → powers b (suc k) ≡ (4 * b + 1) * powers b k + 1
unfolding powers
powers-suc b k = refl

-- a sum and a further one
grown : (b s t u : ℕ) → u ≡ s + t + 4 * (b * (s * t))
    → (4 * b + 1) * u + 1 ≡ s + ((4 * b + 1) * t + 1) + 4 * (b * (s * ((4 * b + 1) * t + 1)))
grown b s t u is = rw is (omega arith)

powers-add : (b m k : ℕ) → powers b (m + k) ≡ powers b m + powers b k + 4 * (b * (powers b m * powers b k))
powers-add b m zero = rw powers-zero (let same : m + 0 ≡ m = omega arith in rw same (omega arith))
powers-add b m (suc k) =
    let at : m + suc k ≡ suc (m + k) = omega arith in
    rw (at, powers-suc b (m + k), powers-suc b k) (grown b (powers b m) (powers b k) (powers b (m + k)) (powers-add b m k))

-- twice as many powers: two times the sum, times an odd number
powers-double : (b m : ℕ) → powers b (2 * m) ≡ 2 * (powers b m * (2 * (b * powers b m) + 1))
powers-double b m =
    let at : 2 * m ≡ m + m = omega arith in
    rw at (powers-add b m m ∙ omega arith)

-- one more than an even number of powers is odd
powers-odd : (b m w : ℕ) → powers b (suc (2 * m)) ≡ 2 * w → ⊥
powers-odd b m w is = go (powers b m * (2 * (b * powers b m) + 1)) (powers b (2 * m)) (powers-double b m) (sym (powers-suc b (2 * m)) ∙ is)
  where
    go : (h s : ℕ) → s ≡ 2 * h → (4 * b + 1) * s + 1 ≡ 2 * w → ⊥
    go h s even whole = omega (arith, rw even at whole)

times_two : (n q : ℕ) → 2 ^ suc n * q ≡ 2 * (2 ^ n * q)
times_two n q = rw (pow-succ' 2 n) (omega arith)

twice : (n s t r : ℕ) → s ≡ 2 * t → t ≡ 2 ^ n * r → s ≡ 2 ^ suc n * r
twice n s t r even at = even ∙ ap (λ x. 2 * x) at ∙ sym (times_two n r)

halved : (t h w : ℕ) → 2 * t * (2 * h + 1) ≡ 2 * w → t * (2 * h + 1) ≡ w
halved t h w is = omega arith

-- a power of two that divides a product with an odd number divides the other factor
pub odd_factor : (n s h q : ℕ) → s * (2 * h + 1) ≡ 2 ^ n * q → (r : ℕ) × (s ≡ 2 ^ n * r)
odd_factor zero s h q is = (s, omega arith)
odd_factor (suc n) s h q is =
    let whole : s * (2 * h + 1) ≡ 2 * (2 ^ n * q) = is ∙ times_two n q in
    let even : s ≡ 2 * (s / 2) = omega (arith, whole) in
    let (r, at) = odd_factor n (s / 2) h q (halved (s / 2) h (2 ^ n * q) (subst (λ x. x * (2 * h + 1) ≡ 2 * (2 ^ n * q)) even whole)) in
    (r, twice n s (s / 2) r even at)

-- a sum that an even number divides is one of an even number of powers
even_count : (b k w : ℕ) → powers b k ≡ 2 * w → k ≡ 2 * (k / 2)
even_count b k w is = go (k % 2) (omega arith) (omega arith)
  where
    go : (o : ℕ) → k ≡ 2 * (k / 2) + o → o < 2 → k ≡ 2 * (k / 2)
    go zero parts small = omega (arith, parts)
    go (suc zero) parts small = let odd : k ≡ suc (2 * (k / 2)) = omega (arith, parts) in
        absurd (powers-odd b (k / 2) w (subst (λ x. powers b x ≡ 2 * w) odd is))
    go (suc (suc o)) parts small = absurd (omega (arith, small))

-- a power of two that divides the sum divides the number of powers
pub divides_count : (n b k q : ℕ) → powers b k ≡ 2 ^ n * q → (r : ℕ) × (k ≡ 2 ^ n * r)
divides_count zero b k q is = (k, omega arith)
divides_count (suc n) b k q is =
    let m = k / 2 in
    let whole : powers b k ≡ 2 * (2 ^ n * q) = is ∙ times_two n q in
    let even : k ≡ 2 * m = even_count b k (2 ^ n * q) whole in
    let doubled : 2 * (powers b m * (2 * (b * powers b m) + 1)) ≡ 2 * (2 ^ n * q) = sym (powers-double b m)
    ∙ subst (λ x. powers b x ≡ 2 * (2 ^ n * q)) even whole in
    let (s, sum) = odd_factor n (powers b m) (b * powers b m) q (omega (arith, doubled)) in
    let (r, half) = divides_count n b m s sum in
    (r, twice n k m r even half)
