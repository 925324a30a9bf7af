use Rattle.vm_step.proofs.kinds.number.pbload_is_its_event.Goals as goal
use Rattle.vm_step.proofs.steps.Number.{pbload-event}

pub returns : goal.returns
returns g c = pbload-event _ _ _ _
