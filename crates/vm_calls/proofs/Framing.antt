-- The frames of a worker that gave them back.
use Rattle.std.proofs.Common.{[], ⊎_elim, ◌∙◌, ◌≡◌, ap, Bool, false, if◌then◌else◌, inr, List, sym, true, true≢false, ℕ}
use Rattle.std.proofs.lemmas.Bool.{cases_Bool}
use Rattle.vm_rule.specs.Prelude.{has}
use Rattle.vm_step.specs.Prelude.{View}
use Rattle.vm_tree_range.specs.from_vm_exmap.Returns.{AreGiven}
use Rattle.vm_tree_range.specs.from_vm_tree_read.Waiting.{LosesNone}

module _ {X : Type 0} where
  -- an interface that gave all its frames back lost none
  pub given-loses : (frames : List ℕ) (v w : View X) → AreGiven frames v w → LosesNone frames v [] w
  given-loses frames v w g f e =
      ⊎_elim
      (λ (own : has f frames ≡ true). absurd (true≢false (sym e ∙ g.left f ∙ ap (λ (b : Bool). if b then false else has f v.frames) own)))
      (λ (other : has f frames ≡ false).
      inr (sym (ap (λ (b : Bool). if b then false else has f v.frames) other) ∙ sym (g.left f) ∙ e, other))
      (cases_Bool (has f frames))
