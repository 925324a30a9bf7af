use Rattle.vm_step.proofs.kinds.release.downgrade_is_its_event.Goals as goal
use Rattle.vm_step.proofs.steps.Release.{downgrade-event}

pub returns : goal.returns
returns g c = downgrade-event _ _ _ _ g.U.Owner.may_release
