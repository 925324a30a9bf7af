use Rattle.vm_step.proofs.kinds.owner.disown_is_its_event.Goals as goal
use Rattle.vm_step.proofs.steps.Owner.{disown-event}

pub returns : goal.returns
returns g c = disown-event _ _ _ _
