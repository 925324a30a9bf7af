use Rattle.vm_step.proofs.kinds.number.pgive_is_its_event.Goals as goal
use Rattle.vm_step.proofs.steps.Number.{pgive-event}

pub returns : goal.returns
returns g c = pgive-event _ _ _ _
