-- What a step leaves that changes nothing of the view: a mark set or taken away, an exchange of any kind that was
-- lost, a load of a bundle's
-- word, the hand moved on.
use Rattle.vm_rule.specs.declared.view.WordPlace.TheVariants as places
use Rattle.vm_step.proofs.{Asides.alone-silent, Asides.OnlyReads, Evidenced.lost-view}
use Rattle.vm_step.proofs.Prelude.{[], ap, Brings, Did, did_exchange, draft_of, HoldsPage, if◌then◌else◌, IsLocking}
use Rattle.vm_step.proofs.Prelude.{KnowsAsBefore, loads_at, MarkTold, None, refl, seat_of, View, Works, ℕ, ◌==◌, ◌∷◌}
use Rattle.vm_step.proofs.Prelude.{◌≡◌, ◌≢◌}
use Rattle.vm_step.proofs.steps.Leaving.{holds-still, knows-still, LeavesOwn, only-of, others-still, own-from, works-of}

module _ {X : Type 0} {did : Did} {v w : View X} (b : Brings did [] [] v v w) where
  pub still-own : LeavesOwn v w
  still-own = own-from b refl (refl, refl, refl) (refl, λ _. (refl, refl))

  pub still-seat : (q : ℕ) → seat_of w q ≡ seat_of v q
  still-seat q = ap (λ (x : View X). seat_of x q) b.view

  pub still-loads : (q : ℕ) → loads_at w q ≡ loads_at v q
  still-loads q = ap (λ (x : View X). loads_at x q) b.view

  pub still-holds : (q : ℕ) → HoldsPage v w q
  still-holds q = holds-still q (still-seat q)

  pub still-knows : (q : ℕ) → IsLocking (seat_of v q) → KnowsAsBefore v w q
  still-knows = knows-still b refl refl refl

  pub still-works : (p : ℕ) → Works p (did ∷ []) v w
  still-works p = works-of (others-still b) still-own (still-seat p) (still-loads p) (ap (λ x. draft_of x p) b.view)
      (λ l. (still-knows p l).last)

-- an exchange of any kind that was lost: with this, all of the above holds of it
pub lost-brings : {X : Type 0} {did : Did} {expects found : ℕ} {v w : View X} (inner : View X) → found ≢ expects
    → Brings did [] [] v (if found == expects then inner else v) w → Brings did [] [] v v w
lost-brings {did = did} {expects = expects} {found = found} {v = v} {w = w} inner ne b = lost-view did expects found v inner w ne b

-- so such a step changes no more than open reads: the hand that is moved, a mark that is tried, an exchange of any
-- kind that was lost
module _ {X : Type 0} (touched : ℕ → Type 0) where
  pub still-only : (did : Did) (v w : View X) → Brings did [] [] v v w → OnlyReads touched (did ∷ []) v w
  still-only did v w b = only-of (others-still b) (still-own b) (still-holds b) (still-knows b) (alone-silent did None [] v v w b refl)

  pub mark-only : (p expects found new : ℕ) (v w : View X) → MarkTold p expects found new v w
      → OnlyReads touched (did_exchange (places.State p) expects found new ∷ []) v w
  mark-only p expects found new v w t = still-only _ v w t.brings

  pub lost-only : (did : Did) (expects found : ℕ) (v inner w : View X) → found ≢ expects
      → Brings did [] [] v (if found == expects then inner else v) w → OnlyReads touched (did ∷ []) v w
  lost-only did expects found v inner w ne b = still-only did v w (lost-brings inner ne b)
