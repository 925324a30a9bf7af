-- Lists of page numbers, read as sets.
use Rattle.std.proofs.Common.{◌≡◌, ◌≢◌, ℕ, ◌+◌, ◌≤◌, ◌||◌, eqb, eq-eqb, Bool, true, false, List, [], ◌∷◌, ◌++◌}
use Rattle.std.proofs.Common.{length, if◌then◌else◌, refl, ap, ◌∙◌, ⊎_elim, arith}
use Rattle.std.proofs.lemmas.Bool.{cases_Bool, ne_eqb}
use Rattle.std.proofs.lemmas.Bool.Decides.{nat_tests}
use Rattle.vm_owner.specs.Numbers.{has, without, AreApart}

pub has-without_other : (p x : ℕ) (l : List ℕ) → x ≢ p → has x (without p l) ≡ has x l
has-without_other p x [] ne = refl
has-without_other p x (q ∷ qs) ne = grind (arith, nat_tests, has-without_other p x qs ne)

pub has-without_same : (p : ℕ) (l : List ℕ) → has p (without p l) ≡ false
has-without_same p [] = refl
has-without_same p (q ∷ qs) = grind (arith, nat_tests, has-without_same p qs)

pub without-none : (p : ℕ) (l : List ℕ) → has p l ≡ false → without p l ≡ l
without-none p [] none = refl
without-none p (q ∷ qs) none = grind (arith, nat_tests, without-none p qs)

pub length-without : (p : ℕ) (l : List ℕ) → AreApart l → has p l ≡ true → length (without p l) + 1 ≡ length l
length-without p [] apart some = absurd (cc)
length-without p (q ∷ qs) apart some = grind (arith, nat_tests, apart.0, without-none p qs, length-without p qs apart.1)

pub without-few : (p : ℕ) (l : List ℕ) → AreApart l → length l ≤ length (without p l) + 1
without-few p l apart =
    ⊎_elim
    (λ some. let one = length-without p l apart some in omega (arith, one))
    (λ none. let same = ap (λ (m : List ℕ). length m) (without-none p l none) in omega (arith, same))
    (cases_Bool (has p l))

pub has-without : (p x : ℕ) (l : List ℕ) → has x (without p l) ≡ true → has x l ≡ true
has-without p x [] some = some
has-without p x (q ∷ qs) some = grind (arith, nat_tests, has-without p x qs, some)

pub AreApart-without : (p : ℕ) (l : List ℕ) → AreApart l → AreApart (without p l)
AreApart-without p [] apart = tt
AreApart-without p (q ∷ qs) apart = go (eqb p q) refl (AreApart-without p qs apart.1)
  where
    go : (b : Bool) → eqb p q ≡ b → AreApart (without p qs) → AreApart (if b then without p qs else q ∷ without p qs)
    go true same rest = rest
    go false other rest = let ne : q ≢ p = grind (arith, nat_tests, other) in (has-without_other p q qs ne ∙ apart.0, rest)

-- of two lists, one behind the other
pub has-both : (p : ℕ) (l m : List ℕ) → has p (l ++ m) ≡ (has p l || has p m)
has-both p [] m = refl
has-both p (q ∷ qs) m = ⊎_elim (λ t. rw t refl) (λ f. rw f (has-both p qs m)) (cases_Bool (eqb p q))

-- ---- a list with one more number at its end

pub has-end : (l : List ℕ) (k p : ℕ) → p ≢ k → has p (l ++ k ∷ []) ≡ has p l
has-end l k p ne = has-both p l (k ∷ []) ∙ rw (ne_eqb p k ne) (or-none (has p l))
  where
    or-none : (b : Bool) → (b || (false || false)) ≡ b
    or-none true = refl
    or-none false = refl

pub has-last : (l : List ℕ) (k : ℕ) → has k (l ++ k ∷ []) ≡ true
has-last l k = has-both k l (k ∷ []) ∙ rw (eq-eqb k k refl) (or-true (has k l))
  where
    or-true : (b : Bool) → (b || true) ≡ true
    or-true true = refl
    or-true false = refl

pub apart-end : (l : List ℕ) (k : ℕ) → AreApart l → has k l ≡ false → AreApart (l ++ k ∷ [])
apart-end [] k apart none = (refl, tt)
apart-end (q ∷ qs) k apart none =
    let ne : q ≢ k = grind (arith, nat_tests, none) in
    let rest : has k qs ≡ false = grind (arith, nat_tests, none) in
    (has-end qs k q ne ∙ apart.0, apart-end qs k apart.1 rest)

-- two lists, one behind the other, without a number
pub without-both : (p : ℕ) (l m : List ℕ) → without p (l ++ m) ≡ without p l ++ without p m
without-both p [] m = refl
without-both p (q ∷ qs) m = ⊎_elim (λ t. rw t (without-both p qs m))
    (λ f. rw f (ap (λ (l : List ℕ). q ∷ l) (without-both p qs m))) (cases_Bool (eqb p q))
