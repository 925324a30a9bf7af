-- A step that the table allows on the word of a group's first page, at the place and with the new word that a call
-- has worked out.
use prog.Atomic.{either}
use Rattle.vm_rule.specs.{declared.view.TableShape.TableShape, declared.view.View.View}
use Rattle.vm_step.proofs.Prelude.{AllowsStep, Bool, eqb, Kept, List, Stands, Start}
use Rattle.vm_step.proofs.Prelude.{Stored, subst, sym, told_of, ℕ, ◌≡◌}

module _ {X B : Type 0} (stored : B → Stored) (keeps : Start → Kept X → Type 0)
    (tied : Start → ℕ → List ℕ → ℕ → List ℕ → Type 0) (shape : TableShape) (tells : Bool) (slots id : ℕ) (v : View X)
    (Told : ℕ → View X → View X → Type 0) where
  -- the step at this place, which makes f of the word there
  abbrev Allowed : ℕ → (ℕ → ℕ) → Type 0
  Allowed at f = AllowsStep (Stands stored keeps tied shape tells) slots id v at f (told_of shape tells Told)

  pub placed : (h at : ℕ) (f : ℕ → ℕ) → at ≡ h → Allowed h f → Allowed at f
  placed h at f is allowed = subst (λ i. Allowed i f) (sym is) allowed

  pub exchange-placed : (h expects word at new : ℕ) → at ≡ h → new ≡ word
      → Allowed h (λ n. either (eqb n expects) word n)
      → Allowed at (λ n. either (eqb n expects) new n)
  exchange-placed h expects word at new is spells allowed =
      placed h at (λ n. either (eqb n expects) new n) is
      (subst (λ x. Allowed h (λ n. either (eqb n expects) x n)) (sym spells) allowed)

  pub stored-placed : (h word at new : ℕ) → at ≡ h → new ≡ word → Allowed h (λ _. word) → Allowed at (λ _. new)
  stored-placed h word at new is spells allowed =
      placed h at (λ _. new) is (subst (λ x. Allowed h (λ _. x)) (sym spells) allowed)
