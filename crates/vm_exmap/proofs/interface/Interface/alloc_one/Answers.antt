-- The frame is the first of those that it had, or of those that were taken; what stays with the interface is part of
-- them, and that is held.
use Rattle.vm_exmap.proofs.{Answering.dry-answer, Answering.found-answer, Answering.is-empty, Answering.lost-answer, Handing.held-rest}
use Rattle.vm_exmap.proofs.Prelude.{[], AreHeld, List, subst, view, ℕ, ◌∷◌, ◌≡◌}
use Rattle.vm_exmap.proofs.interface.Interface.alloc_one.Goals as goal

pub returns-then-not-is_empty-clause-frame : goal.returns-then-not-is_empty-clause-frame
returns-then-not-is_empty-clause-frame g c frame is =
    let same : c.first.result ≡ frame = cc in
    subst (λ (f : ℕ). AreHeld (f ∷ c.first.new.self.frames) (view c.args.pass.now)) same
    (subst (λ (l : List ℕ). AreHeld l (view c.args.pass.now)) c.first.ensures.hands.all c.requires.frames)

pub returns-then-not-is_empty-clause-held : goal.returns-then-not-is_empty-clause-held
returns-then-not-is_empty-clause-held g c =
    held-rest (c.first.result ∷ []) c.first.new.self.frames (view c.args.pass.now)
    (subst (λ (l : List ℕ). AreHeld l (view c.args.pass.now)) c.first.ensures.hands.all c.requires.frames)

pub returns-in-Batch-clause-same : goal.returns-in-Batch-clause-same
returns-in-Batch-clause-same g c = c.first-in-Batch.ensures.same

pub returns-in-Batch-clause-answer : goal.returns-in-Batch-clause-answer
returns-in-Batch-clause-answer g c =
    found-answer _ _ _ _ _ _ _ (is-empty _ _ c.is_empty.ensures c.if-not-is_empty.false) c.max.ensures _ _ _
    c.in-Batch.ensures.walk c.first-in-Batch.ensures.hands

pub returns-in-Batch-clause-frame : goal.returns-in-Batch-clause-frame
returns-in-Batch-clause-frame g c frame is =
    let same : c.first-in-Batch.result ≡ frame = cc in
    subst (λ (f : ℕ). AreHeld (f ∷ c.first-in-Batch.new.self.frames) (view c.walk.new.pass)) same
    (subst (λ (l : List ℕ). AreHeld l (view c.walk.new.pass)) c.first-in-Batch.ensures.hands.all
    c.in-Batch.ensures.walk.held)

pub returns-in-Batch-clause-held : goal.returns-in-Batch-clause-held
returns-in-Batch-clause-held g c =
    held-rest (c.first-in-Batch.result ∷ []) c.first-in-Batch.new.self.frames (view c.walk.new.pass)
    (subst (λ (l : List ℕ). AreHeld l (view c.walk.new.pass)) c.first-in-Batch.ensures.hands.all
    c.in-Batch.ensures.walk.held)

pub returns-in-Dry-clause-answer : goal.returns-in-Dry-clause-answer
returns-in-Dry-clause-answer g c = dry-answer _ _ _ _ _ _ _ (is-empty _ _ c.is_empty.ensures c.if-not-is_empty.false)
    c.max.ensures c.in-Dry.ensures.walk

pub returns-in-Again-clause-answer : goal.returns-in-Again-clause-answer
returns-in-Again-clause-answer g c =
    lost-answer _ _ _ _ _ _ _ (is-empty _ _ c.is_empty.ensures c.if-not-is_empty.false) c.max.ensures _
    c.in-Again.ensures.walk

pub returns-in-Again-clause-sure : goal.returns-in-Again-clause-sure
returns-in-Again-clause-sure g c a = c.in-Again.ensures.walk.others a
