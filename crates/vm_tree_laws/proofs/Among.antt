-- Which of a few pages one is.
use Rattle.std.proofs.Common.{◌≡◌, ◌≢◌, inl, inr, ℕ, false, true, List, [], ◌∷◌, ◌==◌, refl}
use Rattle.std.proofs.lemmas.Bool.{eqb-true, eq-eqb, ne_eqb, or_cases, or_left, or_right}
use Rattle.vm_owner.specs.Numbers.{has}

-- one that is not the first is one of the others
not_first : (x q : ℕ) (qs : List ℕ) → x ≢ q → has x (q ∷ qs) ≡ true → has x qs ≡ true
not_first x q qs ne some = rw (ne_eqb x q ne) at some

only_one : (x q : ℕ) → has x (q ∷ []) ≡ true → x ≡ q
only_one x q some = elim (or_cases (x == q) false some) [ inl same ↦ eqb-true x q same | inr none ↦ absurd (cc) ]

pub third : (x q p r : ℕ) → has x (q ∷ p ∷ r ∷ []) ≡ true → x ≢ q → x ≢ p → x ≡ r
third x q p r some xq xp = only_one x r (not_first x p (r ∷ []) xp (not_first x q (p ∷ r ∷ []) xq some))

pub fourth : (x o q p r : ℕ) → has x (o ∷ q ∷ p ∷ r ∷ []) ≡ true → x ≢ o → x ≢ q → x ≢ p → x ≡ r
fourth x o q p r some xo xq xp = third x q p r (not_first x o (q ∷ p ∷ r ∷ []) xo some) xq xp

pub none_of_three : (x q p r : ℕ) → x ≢ q → x ≢ p → x ≢ r → has x (q ∷ p ∷ r ∷ []) ≡ false
none_of_three x q p r xq xp xr = rw (ne_eqb x q xq, ne_eqb x p xp, ne_eqb x r xr) refl

pub has_first : (x : ℕ) (qs : List ℕ) → has x (x ∷ qs) ≡ true
has_first x qs = or_left (x == x) (has x qs) (eq-eqb x x refl)

pub has_behind : (x q : ℕ) (qs : List ℕ) → has x qs ≡ true → has x (q ∷ qs) ≡ true
has_behind x q qs some = or_right (x == q) (has x qs) some
