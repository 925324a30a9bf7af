use Rattle.std.proofs.Common.{inr, subst, sym}
use Rattle.vm_step.specs.Prelude.{view}
use Rattle.vm_guard.specs.Guards.{HasLeft}
use Rattle.vm_guard.proofs.Leaving.{has-left-on, lock-leaves}
use Rattle.vm_test_locks.proofs.guard.a_release_ends_an_older_read.Goals as goal

pub validate_silently-answer-requires-clause-reading :
    goal.validate_silently-answer-requires-clause-reading
validate_silently-answer-requires-clause-reading g c =
    let begun = c.in-Ok.ensures.ok in
    let locked = c.in-Ok-take.ensures.taken.1 in
    let left = lock-leaves _ _ _ _ _ _ _ _ _ begun.1.reads locked in
    inr (subst (λ p. HasLeft p c.in-Ok.guard.word (view c.release.new.pass)) (sym begun.0)
    (has-left-on _ _ _ _ _ left c.release.ensures.released.elsewhere.steady))
