-- Sums that stop at 2^64 - 1.
use Rattle.vm_pool.proofs.Prelude.{[], ap, Each, length, List, map, min, refl, Stored, sum_by, sum_by-cons}
use Rattle.vm_pool.proofs.Prelude.{sum_by-le-sum_by, sum_to_max, sym, take, take_all, ℕ, ◌+◌, ◌-◌, ◌^◌, ◌∙◌, ◌∷◌, ◌≡◌}
use Rattle.vm_pool.proofs.Prelude.{◌≤◌}

module _ {B : Type 0} (stored : B → Stored) where
  sum-stored : (f : Stored → ℕ) (xs : List B) → sum_by f (map stored xs) ≡ sum_by (λ b. f (stored b)) xs
  sum-stored f [] = refl
  sum-stored f (x ∷ xs) = sum_by-cons f (stored x) (map stored xs) ∙ ap (λ n. f (stored x) + n) (sum-stored f xs)
      ∙ sym (sum_by-cons (λ b. f (stored b)) x xs)

  -- all blocks are counted
  pub sum-whole : (f : Stored → ℕ) (xs : List B) (n k : ℕ) → length xs ≤ k
      → n ≡ min (sum_by (λ b. f (stored b)) (take k xs)) (2 ^ 64 - 1) → n ≡ sum_to_max f (map stored xs)
  sum-whole f xs n k le is = is ∙ ap (λ l. min (sum_by (λ b. f (stored b)) l) (2 ^ 64 - 1)) (take_all k xs le)
      ∙ sym (ap (λ m. min m (2 ^ 64 - 1)) (sum-stored f xs))

  -- each block has counted at most its bound
  pub sum-bounded : ((b : B) → (stored b).count ≤ (stored b).bound) → (xs : List B)
      → sum_by (λ (b : Stored). b.count) (map stored xs) ≤ sum_by (λ (b : Stored). b.bound) (map stored xs)
  sum-bounded bounded xs = rw (sum-stored (λ b. b.count) xs, sum-stored (λ b. b.bound) xs)
      (sum_by-le-sum_by (λ b. (stored b).count) (λ b. (stored b).bound) xs bounded)

  pub each-bounded : ((b : B) → (stored b).count ≤ (stored b).bound) → (xs : List B)
      → Each (λ (b : Stored). b.count ≤ b.bound) (map stored xs)
  each-bounded bounded [] = tt
  each-bounded bounded (x ∷ xs) = (bounded x, each-bounded bounded xs)
