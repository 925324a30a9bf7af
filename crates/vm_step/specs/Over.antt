-- A step on the state word of a group, as the pages of the group have it: each makes the step, one behind another.
use Rattle.std.specs.Prelude.{[], ◌∷◌, ◌≡◌, List, ℕ}
use Rattle.vm_rule.specs.declared.view.View.{View}

module _ {X : Type 0} where
  -- each page finds n, and goes on from the view that the one before it left
  abbrev pub InTurn : (ℕ → ℕ → View X → View X → Type 0) → List ℕ → ℕ → View X → View X → Type 0
  InTurn told [] n v w = w ≡ v
  InTurn told (q ∷ qs) n v w = (u : View X) × told q n v u × InTurn told qs n u w
