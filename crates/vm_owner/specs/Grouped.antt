-- Groups of pages, as a layer above may take them: by their first pages and sizes.
use Rattle.std.specs.Prelude.{[], ◌∷◌, ◌≡◌, Bool, false, List, true, ℕ}
use Rattle.std.proofs.{Common.refl, lemmas.Bool.false≢true}

-- a layer that says nothing of groups takes none
abbrev pub no_groups : List (ℕ × ℕ) → Bool
no_groups [] = true
no_groups (g ∷ gs) = false

-- so those that it takes are none
pub takes-none : (groups : List (ℕ × ℕ)) → no_groups groups ≡ true → groups ≡ []
takes-none [] taken = refl
takes-none (g ∷ gs) taken = absurd (false≢true taken)
