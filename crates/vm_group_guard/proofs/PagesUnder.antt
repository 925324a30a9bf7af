-- The pages that stand under a group's first one, which are numbers in a row: one more of them, how many they are, and
-- what they tell in turn.
use Rattle.vm_group_guard.proofs.Prelude.{[], ap, arith, InTurn, length, List, numbers, refl, subst, suc, View, zero, ℕ}
use Rattle.vm_group_guard.proofs.Prelude.{◌++◌, ◌+◌, ◌∙◌, ◌∷◌, ◌≡◌}

-- one more behind them
pub numbers-more : (a n : ℕ) → numbers a (suc n) ≡ numbers a n ++ (a + n) ∷ []
unfolding numbers
numbers-more a zero = ap (λ q. q ∷ []) (let same : a ≡ a + 0 = omega arith in same)
numbers-more a (suc n) = ap (λ (qs : List ℕ). a ∷ qs) (numbers-more (suc a) n ∙ ap (λ q. numbers (suc a) n ++ q ∷ [])
    (let same : suc a + n ≡ a + suc n = omega arith in same))

pub length-numbers : (n a : ℕ) → length (numbers a n) ≡ n
unfolding numbers
length-numbers zero a = refl
length-numbers (suc n) a = ap (λ m. suc m) (length-numbers n (suc a))

-- what the pages of a list tell in turn, those of the same list do
pub in-turn-over : {X : Type 0} (T : ℕ → ℕ → View X → View X → Type 0) (qs ps : List ℕ) (n : ℕ) (v w : View X) → qs ≡ ps
    → InTurn T qs n v w → InTurn T ps n v w
in-turn-over T qs ps n v w same told = subst (λ l. InTurn T l n v w) same told
