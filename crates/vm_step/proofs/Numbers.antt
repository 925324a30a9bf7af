-- The pages from a number on, and a claim of them.
use Rattle.vm_step.proofs.Prelude.{[], arith, cases_lt, claimed, false≢true, get_or-eq_default, get_or-replicate, has}
use Rattle.vm_step.proofs.Prelude.{Kept, length-replicate, nat_tests, numbers, replicate, slice_index, suc, true}
use Rattle.vm_step.proofs.Prelude.{zero, ℕ, ⊎_elim, ◌++◌, ◌+◌, ◌<◌, ◌∙◌, ◌∷◌, ◌≡◌, ◌≤◌}

-- the list has the numbers from x on, n of them
pub has-numbers : (n x p : ℕ) → has p (numbers x n) ≡ true → (x ≤ p) × (p < x + n)
unfolding numbers
has-numbers zero x p e = absurd (false≢true e)
has-numbers (suc n) x p e = grind (arith, nat_tests, has-numbers n (suc x) p)

pub numbers-has : (n x p : ℕ) → x ≤ p → p < x + n → has p (numbers x n) ≡ true
unfolding numbers
numbers-has zero x p low high = absurd (omega (arith, low, high))
numbers-has (suc n) x p low high = grind (arith, nat_tests, numbers-has n (suc x) p)

-- a page of zeros has only zeros
pub all-zeros : (n i : ℕ) → slice_index (replicate n 0) i ≡ 0
all-zeros n i = ⊎_elim (λ lt. get_or-replicate n i 0 0 lt)
    (λ le. get_or-eq_default (replicate n 0) 0 (let long = length-replicate {A = ℕ} n 0 in omega (arith, long, le)))
    (cases_lt i n)

module _ {S : Type 0} where
  -- a claim changes the next page and the pages owed
  pub claimed-is : (n : ℕ) (kept : Kept S) → claimed n kept ≡ record kept { next = kept.next + n; owed = (claimed n kept).owed }
  claimed-is zero kept = (let same : kept.next ≡ kept.next + 0 = omega arith in λ i. record kept { next = same i })
  claimed-is (suc n) kept =
      claimed-is n (record kept { next = kept.next + 1; owed = kept.owed ++ kept.next ∷ [] })
      ∙ (let same : kept.next + 1 + n ≡ kept.next + suc n = omega arith in λ i. record kept {
        next = same i;
        owed = (claimed (suc n) kept).owed;
      })
