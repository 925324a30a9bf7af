-- The numbers of a generator come again only after all others.
use Rattle.std.proofs.Common.{◌≡◌, ℕ, zero, suc, ◌+◌, ◌-◌, ◌*◌, ◌/◌, ◌^◌, ◌<◌, ◌≤◌, refl, sym, ◌∙◌, ap, arith}
use Rattle.std.proofs.Math.Nat.{mod-add-div}
use Rattle.vm_build.specs.Numbers.{next_number, number_at}
use Rattle.vm_build.proofs.Powers.{powers, powers-zero, powers-suc, odd_factor, divides_count}

-- the multiplier is four times this number and one
abbrev QUARTER : ℕ
QUARTER = 1591034055961698251

-- the increment is two times this number and one
abbrev HALF : ℕ
HALF = 721347520444481703

-- how far the first step from x goes: an odd number
abbrev stride : ℕ → ℕ → ℕ → ℕ
stride b h x = 2 * (2 * (b * x) + h) + 1

-- one step more from x, with what was taken off for the modulus m
stepped : (b h m x y q s d z : ℕ) → y + m * q ≡ x + s * stride b h x → z + m * d ≡ (4 * b + 1) * y + (2 * h + 1)
    → z + m * (d + (4 * b + 1) * q) ≡ x + ((4 * b + 1) * s + 1) * stride b h x
stepped b h m x y q s d z before next =
    let times : (4 * b + 1) * (y + m * q) ≡ (4 * b + 1) * (x + s * stride b h x) = ap (λ n. (4 * b + 1) * n) before in
    go (stride b h x) refl times
  where
    go : (w : ℕ) → stride b h x ≡ w → (4 * b + 1) * (y + m * q) ≡ (4 * b + 1) * (x + s * w)
        → z + m * (d + (4 * b + 1) * q) ≡ x + ((4 * b + 1) * s + 1) * w
    go w is times = let first : 4 * (b * x) + 2 * h + 1 ≡ w = omega (arith, is) in omega (arith, times, next, first)

next_is : (y : ℕ) → next_number y + 2 ^ 64 * (((4 * QUARTER + 1) * y + (2 * HALF + 1)) / 2 ^ 64) ≡ (4 * QUARTER + 1) * y + (2 * HALF + 1)
next_is y = mod-add-div ((4 * QUARTER + 1) * y + (2 * HALF + 1)) (2 ^ 64)

-- the number k places after x, without the modulus
reached : (x k : ℕ) → (q : ℕ) × (number_at x k + 2 ^ 64 * q ≡ x + powers QUARTER k * stride QUARTER HALF x)
reached x zero = (0, rw (powers-zero QUARTER) (omega arith))
reached x (suc k) =
    let (q, before) = reached x k in
    let y = number_at x k in
    let d = ((4 * QUARTER + 1) * y + (2 * HALF + 1)) / 2 ^ 64 in (
      d + (4 * QUARTER + 1) * q,
      rw (powers-suc QUARTER k)
          (stepped QUARTER HALF (2 ^ 64) x y q (powers QUARTER k) d (next_number y) before (next_is y)),
    )

-- places are counted from any number on
number-add : (seed i k : ℕ) → number_at seed (i + k) ≡ number_at (number_at seed i) k
number-add seed i zero = let same : i + 0 ≡ i = omega arith in ap (number_at seed) same
number-add seed i (suc k) = let at : i + suc k ≡ suc (i + k) = omega arith in ap (number_at seed) at ∙ ap next_number (number-add seed i k)

less_than_all : (k r : ℕ) → k ≡ 2 ^ 64 * r → k < 2 ^ 64 → k ≡ 0
less_than_all k r is below = omega arith

-- a number comes again at once, or not among the next 2 ^ 64
returns_at : (x k : ℕ) → number_at x k ≡ x → k < 2 ^ 64 → k ≡ 0
returns_at x k again below =
    let (q, whole) = reached x k in
    let product : powers QUARTER k * stride QUARTER HALF x ≡ 2 ^ 64 * q =
    cancel x (2 ^ 64 * q) (powers QUARTER k * stride QUARTER HALF x) (rw again at whole) in
    let (r, sum) = odd_factor 64 (powers QUARTER k) (2 * (QUARTER * x) + HALF) q product in
    let (t, count) = divides_count 64 QUARTER k r sum in
    less_than_all k t count below
  where
    cancel : (x a b : ℕ) → x + a ≡ x + b → b ≡ a
    cancel x a b is = omega arith

pub numbers_differ : (seed i j : ℕ) → number_at seed i ≡ number_at seed j → i ≤ j → j < i + 2 ^ 64 → i ≡ j
numbers_differ seed i j same from below =
    let split : i + (j - i) ≡ j = omega arith in
    let again : number_at (number_at seed i) (j - i) ≡ number_at seed i = sym (number-add seed i (j - i))
    ∙ ap (number_at seed) split ∙ sym same in
    let none : j - i ≡ 0 = returns_at (number_at seed i) (j - i) again (omega arith) in
    omega arith
