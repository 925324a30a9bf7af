-- A function from numbers, as a list of its changes; and lists that are read off functions.
use Rattle.std.specs.Prelude.{[], ◌++◌, ◌∷◌, Bool, if◌then◌else◌, List, suc, zero, ℕ}
use Rattle.vm_event.specs.Prelude.{upd}
use Rattle.vm_rule.specs.declared.view.Put.{Put}

-- the function: d, changed at each place of the list, the last change first
abbrev pub put_at : {A : Type 0} → A → List (Put A) → ℕ → A
put_at d [] = λ k. d
put_at d (x ∷ xs) = upd (put_at d xs) x.place x.value

abbrev pub put : {A : Type 0} → ℕ → A → List (Put A) → List (Put A)
put k x xs = record { place = k; value = x } ∷ xs

-- the values of f below n
unfoldable pub listed : {A : Type 0} → ℕ → (ℕ → A) → List A
listed zero f = []
listed (suc n) f = f 0 ∷ listed n (λ k. f (suc k))

-- the numbers below n for which f says so
unfoldable pub chosen : ℕ → (ℕ → Bool) → List ℕ
chosen zero f = []
chosen (suc n) f = chosen n f ++ (if f n then n ∷ [] else [])
