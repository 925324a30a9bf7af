-- Pairs that were taken one after another from a list's front are its first pairs.
use Rattle.std.proofs.Common.{◌≡◌, ℕ, zero, suc, ◌≤◌, ◌++◌, [], ◌∷◌, length, take, refl, ap, sym, arith}
use Rattle.vm_map.specs.Map.{Pairs}
use Rattle.vm_map.specs.Windows.{bound_after}

take_front : (a b : Pairs) → take (length a) (a ++ b) ≡ a
take_front [] b = refl
take_front (e ∷ es) b = ap (λ (l : Pairs). e ∷ l) (take_front es b)

bound_front : (a b : Pairs) (e : ℕ × ℕ) (high : ℕ) → bound_after (a ++ e ∷ b) (length a) high ≡ e.0
bound_front [] b e high = refl
bound_front (f ∷ a) b e high = bound_front a b e high

take_whole : (a : Pairs) (n : ℕ) → length a ≤ n → take n a ≡ a
take_whole [] zero le = refl
take_whole [] (suc n) le = refl
take_whole (e ∷ es) zero le = absurd (omega (arith, le))
take_whole (e ∷ es) (suc n) le = ap (λ (l : Pairs). e ∷ l) (take_whole es n (omega (arith, le)))

bound_whole : (a : Pairs) (n high : ℕ) → length a ≤ n → bound_after a n high ≡ high
bound_whole [] n high le = refl
bound_whole (e ∷ es) zero high le = absurd (omega (arith, le))
bound_whole (e ∷ es) (suc n) high le = bound_whole es n high (omega (arith, le))

-- a full window ends at the pair that is left
pub first_shown : (a b m : Pairs) (e : ℕ × ℕ) (n : ℕ) → a ++ e ∷ b ≡ m → length a ≡ n → a ≡ take n m
first_shown a b m e n whole long = sym (rw (← whole, ← long) (take_front a (e ∷ b)))

pub first_bound : (a b m : Pairs) (e : ℕ × ℕ) (n high : ℕ) → a ++ e ∷ b ≡ m → length a ≡ n → e.0 ≡ bound_after m n high
first_bound a b m e n high whole long = sym (rw (← whole, ← long) (bound_front a b e high))

-- a window that shows all ends at the end
pub all_shown : (a m : Pairs) (n : ℕ) → a ≡ m → length a ≤ n → a ≡ take n m
all_shown a m n whole le = sym (rw (← whole) (take_whole a n le))

pub all_bound : (a m : Pairs) (n high : ℕ) → a ≡ m → length a ≤ n → high ≡ bound_after m n high
all_bound a m n high whole le = sym (rw (← whole) (bound_whole a n high le))
