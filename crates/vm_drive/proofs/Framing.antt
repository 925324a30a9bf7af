-- The frames of workers: a pass to which none is left has none, and one that took it in has what it had.
use Rattle.std.proofs.Common.{[], ⊎_elim, ◌++◌, ◌||◌, ◌∙◌, ◌≡◌, ap, Bool, false, List, sym, true, true≢false, ℕ}
use Rattle.std.proofs.lemmas.Bool.{cases_Bool}
use Rattle.vm_owner.proofs.NumberLemmas.{has-both}
use Rattle.vm_rule.specs.Prelude.{has}
use Rattle.vm_step.specs.Prelude.{View}
use Rattle.vm_calls.specs.Prelude.{LosesNone}

module _ {X : Type 0} where
  -- a pass that began with no frame has none where none is left to it
  pub none-left : (old : List ℕ) (v w : View X) → v.frames ≡ [] → LosesNone old v [] w → (f : ℕ) → has f w.frames ≡ false
  none-left old v w none lost f =
      ⊎_elim
      (λ (t : has f w.frames ≡ true). ⊎_elim (λ (no : false ≡ true). absurd (true≢false (sym no)))
      (λ k. absurd (true≢false (sym k.0 ∙ ap (has f) none))) (lost f t))
      (λ n. n)
      (cases_Bool (has f w.frames))

  -- frames behind those of a pass that has none are all there are
  pub none-added : (v u w : View X) → w.frames ≡ u.frames ++ v.frames → ((f : ℕ) → has f u.frames ≡ false) → (f : ℕ)
      → has f w.frames ≡ has f v.frames
  none-added v u w all none f = ap (has f) all ∙ has-both f u.frames v.frames ∙ ap (λ (b : Bool). b || has f v.frames) (none f)
