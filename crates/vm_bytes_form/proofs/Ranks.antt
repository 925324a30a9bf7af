-- Strings stand in the order of their ranks.
use Rattle.std.proofs.Common.{◌≡◌, ◌⊎◌, inl, inr, ℕ, zero, suc, ◌+◌, ◌-◌, ◌*◌, ◌/◌, ◌%◌, ◌^◌, ◌<◌, ◌≤◌, eqb, Bool, true, false, List, []}
use Rattle.std.proofs.Common.{◌∷◌, length, if◌then◌else◌, refl, sym, ap, arith}
use Rattle.std.proofs.lemmas.Bool.{cases_eq, cases_lt, ne_eqb}
use Rattle.std.proofs.lemmas.Nat.{mul-add-lt, div-mul-add, mod-mul-add}
use Rattle.std.proofs.Math.Nat.{pow-succ', one-le-pow}
use Rattle.vm_bytes_form.specs.Strings.{AreBytes, rank_in, string_in}

-- one string stands before another: at the first byte where they differ, or at its end
abbrev pub Stands : List ℕ → List ℕ → Type 0
Stands s [] = ⊥
Stands [] (b ∷ t) = Unit {0}
Stands (a ∷ s) (b ∷ t) = (a < b) ⊎ ((a ≡ b) × Stands s t)

power-above : (n : ℕ) → 1 ≤ 257 ^ n
power-above n = one-le-pow n 257 (omega arith)

power-more : (n : ℕ) → 257 ^ suc n ≡ 257 * 257 ^ n
power-more n = pow-succ' 257 n

pub rank-below : (n : ℕ) (s : List ℕ) → AreBytes s → rank_in n s < 257 ^ n
unfolding rank_in
rank-below zero s bytes = omega arith
rank-below (suc n) [] bytes = power-above (suc n)
rank-below (suc n) (b ∷ s) bytes =
    let rest = rank-below n s bytes.1 in
    let fits : (b + 1) * 257 ^ n + rank_in n s < 257 ^ n * 257 = mul-add-lt (b + 1) (257 ^ n) (rank_in n s) 257
    (omega (arith, bytes.0)) rest in
    omega (arith, fits, power-more n)

-- a string before another one has the lower rank
pub rank_before : (n : ℕ) (s t : List ℕ) → length t ≤ n → AreBytes s → AreBytes t → Stands s t → rank_in n s < rank_in n t
unfolding rank_in
rank_before n s [] fits bs bt before = absurd before
rank_before zero s (b ∷ t) fits bs bt before = absurd (omega (arith, fits))
rank_before (suc n) [] (b ∷ t) fits bs bt before = omega (arith, some (b + 1) (257 ^ n) (omega arith) (power-above n))
  where
    some : (a c : ℕ) → 1 ≤ a → 1 ≤ c → 1 ≤ a * c
    some a c one two = grind (arith, one, two)
rank_before (suc n) (a ∷ s) (b ∷ t) fits bs bt (inl less) =
    let rest = rank-below n s bs.1 in
    let lower : (a + 1) * 257 ^ n + rank_in n s < 257 ^ n * (b + 1) = mul-add-lt (a + 1) (257 ^ n) (rank_in n s) (b + 1)
    (omega (arith, less)) rest in
    grind (arith, lower)
rank_before (suc n) (a ∷ s) (b ∷ t) fits bs bt (inr same) =
    let rest = rank_before n s t (omega (arith, fits)) bs.1 bt.1 same.1 in
    rw same.0 (omega (arith, rest))

-- any two strings: one stands before the other, or they are one
pub in_order : (s t : List ℕ) → Stands s t ⊎ ((s ≡ t) ⊎ Stands t s)
in_order [] [] = inr (inl refl)
in_order [] (b ∷ t) = inl tt
in_order (a ∷ s) [] = inr (inr tt)
in_order (a ∷ s) (b ∷ t) = elim (cases_lt a b) [
  | inl less ↦ inl (inl less)
  | inr from ↦ elim (cases_eq a b) [
    | inl same ↦ elim (in_order s t) [
      | inl before ↦ inl (inr (same, before))
      | inr (inl one) ↦ inr (inl (λ i. same i ∷ one i))
      | inr (inr behind) ↦ inr (inr (inr (sym same, behind)))
    ]
    | inr other ↦ inr (inr (inl (omega (arith, from, other))))
  ]
]

module _ (n : ℕ) (s t : List ℕ) (fits_s : length s ≤ n) (fits_t : length t ≤ n) (bs : AreBytes s) (bt : AreBytes t) where
  -- strings with one rank are one
  pub rank_one : rank_in n s ≡ rank_in n t → s ≡ t
  rank_one same = elim (in_order s t) [
    | inl before ↦ absurd (omega (arith, same, rank_before n s t fits_t bs bt before))
    | inr (inl one) ↦ one
    | inr (inr behind) ↦ absurd (omega (arith, same, rank_before n t s fits_s bt bs behind))
  ]

  -- and the lower rank is that of the string that stands before
  pub rank_tells : rank_in n s < rank_in n t → Stands s t
  rank_tells less = elim (in_order s t) [
    | inl before ↦ before
    | inr (inl one) ↦ absurd (omega (arith, less, ap (rank_in n) one))
    | inr (inr behind) ↦ absurd (omega (arith, less, rank_before n t s fits_s bt bs behind))
  ]

-- a rank's string is the string that it is the rank of
pub string_of_rank : (n : ℕ) (s : List ℕ) → length s ≤ n → AreBytes s → string_in n (rank_in n s) ≡ s
unfolding rank_in string_in
string_of_rank zero [] fits bytes = refl
string_of_rank zero (b ∷ s) fits bytes = absurd (omega (arith, fits))
string_of_rank (suc n) [] fits bytes = let none : 0 / 257 ^ n ≡ 0 = zero_over (257 ^ n) (power-above n) in rw none refl
  where
    zero_over : (p : ℕ) → 1 ≤ p → 0 / p ≡ 0
    zero_over p some = let none : 0 * p + 0 ≡ 0 = omega arith in rw none at (div-mul-add 0 p 0 some)
string_of_rank (suc n) (b ∷ s) fits bytes =
    let below = rank-below n s bytes.1 in
    let digit : ((b + 1) * 257 ^ n + rank_in n s) / 257 ^ n ≡ b + 1 = div-mul-add (b + 1) (257 ^ n) (rank_in n s) below in
    let rest : ((b + 1) * 257 ^ n + rank_in n s) % 257 ^ n ≡ rank_in n s = mod-mul-add (b + 1) (257 ^ n) (rank_in n s) below in
    let not_end : eqb (b + 1) 0 ≡ false = ne_eqb (b + 1) 0 (λ e. omega (arith, e)) in
    let byte : b + 1 - 1 ≡ b = omega arith in
    rw (digit, rest, not_end, byte) (ap (λ (l : List ℕ). b ∷ l) (string_of_rank n s (omega (arith, fits)) bytes.1))

-- the string of any number has at most so many bytes
shorter : (b : Bool) (d n : ℕ) (rest : List ℕ) → length rest ≤ n → length (if b then [] else d ∷ rest) ≤ suc n
shorter true d n rest le = omega arith
shorter false d n rest le = omega (arith, le)

pub length-string : (n k : ℕ) → length (string_in n k) ≤ n
unfolding string_in
length-string zero k = omega arith
length-string (suc n) k = shorter (eqb (k / 257 ^ n) 0) (k / 257 ^ n - 1) n (string_in n (k % 257 ^ n)) (length-string n (k % 257 ^ n))
