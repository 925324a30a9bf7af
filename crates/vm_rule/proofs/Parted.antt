-- The parts at the start: the first pass has each, once.
use Rattle.vm_rule.proofs.Prelude.{[], arith, first_view, if◌then◌else◌, IsWhole, lt-ltb, ltb, nat_tests, numbers}
use Rattle.vm_rule.proofs.Prelude.{one_part, Origin, owns, PARTS, refl, suc, times, total, zero, ℕ, ◌+◌, ◌∷◌, ◌≡◌}

-- each of the numbers from a on stands once
times-numbers : (k a n : ℕ) → times k (numbers a n) ≡ (if ltb k a then 0 else if ltb k (a + n) then 1 else 0)
unfolding numbers
times-numbers k a zero = grind (arith, nat_tests)
times-numbers k a (suc n) = grind (arith, nat_tests, times-numbers k (suc a) n)

-- 0 and the numbers from 1 on, m of them
all-parts : (k m n : ℕ) → suc m ≡ n → times k (0 ∷ []) + times k (numbers 1 m) ≡ (if ltb k n then 1 else 0)
all-parts k m n e = grind (arith, nat_tests, times-numbers k 1 m)

module _ (X : Type 0) (start : Origin) where
  pub first-owns : (k : ℕ) → owns {X = X} k (first_view start) ≡ one_part k
  first-owns k = all-parts k 4294967295 PARTS refl

  pub opened : (k : ℕ) → total {X = X} (owns k) (first_view start ∷ []) ≡ one_part k
  opened k = let one : owns {X = X} k (first_view start) ≡ one_part k = first-owns k in omega arith

  pub first-whole : IsWhole {X = X} (first_view start)
  first-whole k l = let one : owns {X = X} k (first_view start) ≡ one_part k = first-owns k in
      let is : one_part k ≡ 1 = rw (lt-ltb k PARTS l) refl in omega arith
