use Rattle.vm_step.proofs.kinds.release.release_is_its_event.Goals as goal
use Rattle.vm_step.proofs.steps.Release.{release-event}

pub returns : goal.returns
returns g c = release-event _ _ _ _ g.U.Owner.may_release
