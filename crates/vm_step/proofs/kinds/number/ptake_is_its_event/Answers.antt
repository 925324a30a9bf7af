use Rattle.vm_step.proofs.kinds.number.ptake_is_its_event.Goals as goal
use Rattle.vm_step.proofs.steps.Number.{ptake-event}

pub returns : goal.returns
returns g c = ptake-event _ _ _ _
