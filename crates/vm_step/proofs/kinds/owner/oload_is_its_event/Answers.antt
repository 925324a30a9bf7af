use Rattle.vm_step.proofs.kinds.owner.oload_is_its_event.Goals as goal
use Rattle.vm_step.proofs.steps.Owner.{oload-event}

pub returns : goal.returns
returns g c = oload-event _ _ _ _
