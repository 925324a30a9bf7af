-- What a step on a group's word leaves, by what it leaves at each of the group's pages.
use Rattle.vm_group_guard.proofs.Prelude.{[], AreApart, Did, each-made, has, has-head, has-tail, InTurn, LeavesOthers}
use Rattle.vm_group_guard.proofs.Prelude.{List}
use Rattle.vm_group_guard.proofs.Prelude.{map, others-none, others-then, refl, subst, sym, true, View, ℕ, ◌∙◌, ◌∷◌, ◌≡◌}
use Rattle.vm_group_guard.proofs.Prelude.{◌≢◌}

module _ {X : Type 0} (T : ℕ → ℕ → View X → View X → Type 0) (n : ℕ) where
  -- what holds of no step, of each page's step, and of one behind another, holds of all
  pub all-in-turn : (R : View X → View X → Type 0) → ((v : View X) → R v v)
      → ((u v w : View X) → R u v → R v w → R u w) → ((q : ℕ) (u w : View X) → T q n u w → R u w)
      → (qs : List ℕ) (v w : View X) → InTurn T qs n v w → R v w
  all-in-turn R none behind each [] v w told = subst (R v) (sym told) (none v)
  all-in-turn R none behind each (q ∷ qs) v w told =
      behind v told.0 w (each q v told.0 told.1) (all-in-turn R none behind each qs told.0 w told.2)

  -- each page's step stands in the log, and speaks of the pages touched alone
  pub others-in-turn : (touched : ℕ → Type 0) (did : ℕ → Did)
      → ((q : ℕ) (u w : View X) → touched q → T q n u w → LeavesOthers touched (did q ∷ []) [] u w)
      → (qs : List ℕ) → ((q : ℕ) → has q qs ≡ true → touched q) → (v w : View X) → InTurn T qs n v w
      → LeavesOthers touched (map did qs) [] v w
  others-in-turn touched did each [] among v w told = subst (LeavesOthers touched [] [] v) (sym told) (others-none v)
  others-in-turn touched did each (q ∷ qs) among v w told =
      others-then (each q v told.0 (among q (has-head q qs)) told.1)
      (others-in-turn touched did each qs (λ p k. among p (has-tail q qs p k)) told.0 w told.2)

  -- what page p's step makes of what the page had, where steps at other pages leave both
  pub made-at : (p : ℕ) (G F : View X → Type 0) → ((q : ℕ) (u w : View X) → T q n u w → p ≢ q → G u → G w)
      → ((q : ℕ) (u w : View X) → T q n u w → p ≢ q → F u → F w) → ((u w : View X) → G u → T p n u w → F w)
      → (qs : List ℕ) → AreApart qs → has p qs ≡ true → (v w : View X) → InTurn T qs n v w → G v → F w
  made-at p G F had stays made qs apart among v w told is =
      each-made T n (λ q u. q ≡ p → G u) (λ q u. q ≡ p → F u)
      (λ q i u w t ne k e. had q u w t (λ s. ne (e ∙ s)) (k e))
      (λ q i u w t ne k e. stays q u w t (λ s. ne (e ∙ s)) (k e))
      (λ q u w k t e. made u w (k e) (subst (λ j. T j n u w) e t))
      qs apart v w told (λ q _ e. is) p among refl

  -- where there is a page, the pass made a step
  pub current-in-turn : ((q : ℕ) (u w : View X) → T q n u w → w.current ≡ true) → (q : ℕ) (qs : List ℕ) (v w : View X)
      → InTurn T (q ∷ qs) n v w → w.current ≡ true
  current-in-turn each q [] v w told = subst (λ (x : View X). x.current ≡ true) (sym told.2) (each q v told.0 told.1)
  current-in-turn each q (p ∷ qs) v w told = current-in-turn each p qs told.0 w told.2
