-- The pages of a group as numbers in a row.
use Rattle.vm_group_guard.proofs.Prelude.{AreApart, arith, has, IsUnder, numbers, suc, zero, ℕ, ◌≡◌, ◌≤◌}
use Rattle.vm_group_guard.proofs.Prelude.{cases_Bool, has-numbers, List, refl, true, ⊎_elim, ◌∷◌}

pub under : (h size q : ℕ) → has q (numbers h size) ≡ true → IsUnder h size q
under h size q is = has-numbers size h q is

pub numbers-apart : (a n : ℕ) → AreApart (numbers a n)
unfolding numbers
numbers-apart a zero = tt
numbers-apart a (suc n) = (
  ⊎_elim (λ t. absurd (let low = (has-numbers n (suc a) a t).0 in omega (arith, low))) (λ f. f)
      (cases_Bool (has a (numbers (suc a) n))),
  numbers-apart (suc a) n,
)

-- they begin with the first one
pub numbers-first : (a n : ℕ) → 1 ≤ n → (rest : List ℕ) × (numbers a n ≡ a ∷ rest)
unfolding numbers
numbers-first a zero some = absurd (omega (arith, some))
numbers-first a (suc n) some = (numbers (suc a) n, refl)
