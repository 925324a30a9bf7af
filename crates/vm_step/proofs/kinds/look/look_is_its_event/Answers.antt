use Rattle.vm_step.proofs.kinds.look.look_is_its_event.Goals as goal
use Rattle.vm_step.proofs.steps.Look.{look-event}

pub returns : goal.returns
returns g c = look-event _ _ _ _
