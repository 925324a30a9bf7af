-- What a step on a group's word says of each of the group's pages: each has made its own step, between which the
-- others changed nothing of it.
use Rattle.std.proofs.lemmas.Bool.{cases_eq, false≢true, ne_eqb}
use Rattle.vm_owner.specs.Numbers.{AreApart}
use Rattle.vm_rule.specs.declared.view.View.{View}
use Rattle.vm_step.proofs.Over.{has-head, has-tail}
use Rattle.vm_step.proofs.Prelude.{[], ap, false, has, List, subst, sym, true, ℕ, ⊎_elim, ◌||◌, ◌∙◌, ◌∷◌, ◌≡◌, ◌≢◌}
use Rattle.vm_step.specs.Over.{InTurn}

module _ {X : Type 0} (T : ℕ → ℕ → View X → View X → Type 0) (n : ℕ) where
  -- what a step at another page leaves is left by steps at others
  pub stays-through : (F : ℕ → View X → Type 0) → ((q p : ℕ) (u w : View X) → T q n u w → p ≢ q → F p u → F p w)
      → (qs : List ℕ) (p : ℕ) → has p qs ≡ false → (v w : View X) → InTurn T qs n v w → F p v → F p w
  stays-through F stays [] p none v w told is = subst (F p) (sym told) is
  stays-through F stays (q ∷ qs) p none v w told is =
      let ne : p ≢ q = λ e. false≢true (sym none ∙ subst (λ j. has j (q ∷ qs) ≡ true) (sym e) (has-head q qs)) in
      stays-through F stays qs p (sym (ap (λ b. b || has p qs) (ne_eqb p q ne)) ∙ none) told.0 w told.2
      (stays q p v told.0 told.1 ne is)

  -- each page had what its step asks for, G, and has what its step made, F, where steps at other pages leave both
  pub each-made : (G F : ℕ → View X → Type 0) → ((q p : ℕ) (u w : View X) → T q n u w → p ≢ q → G p u → G p w)
      → ((q p : ℕ) (u w : View X) → T q n u w → p ≢ q → F p u → F p w)
      → ((q : ℕ) (u w : View X) → G q u → T q n u w → F q w)
      → (qs : List ℕ) → AreApart qs → (v w : View X) → InTurn T qs n v w → ((q : ℕ) → has q qs ≡ true → G q v)
      → (q : ℕ) → has q qs ≡ true → F q w
  each-made G F had stays made [] apart v w told all q is = absurd (false≢true is)
  each-made G F had stays made (p ∷ qs) apart v w told all q is =
      ⊎_elim
      (λ here. subst (λ j. F j w) (sym here)
      (stays-through F stays qs p apart.0 told.0 w told.2 (made p v told.0 (all p (has-head p qs)) told.1)))
      (λ ne. each-made G F had stays made qs apart.1 told.0 w told.2
      (λ j among. had p j v told.0 told.1
      (λ e. false≢true (sym apart.0 ∙ subst (λ i. has i qs ≡ true) e among)) (all j (has-tail p qs j among)))
      q (sym (ap (λ b. b || has q qs) (ne_eqb q p ne)) ∙ is))
      (cases_eq q p)
