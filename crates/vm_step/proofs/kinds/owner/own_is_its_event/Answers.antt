use Rattle.vm_step.proofs.kinds.owner.own_is_its_event.Goals as goal
use Rattle.vm_step.proofs.steps.Owner.{own-event}

pub returns : goal.returns
returns g c = own-event _ _ _ _
