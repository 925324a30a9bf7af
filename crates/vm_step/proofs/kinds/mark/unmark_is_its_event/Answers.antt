use Rattle.vm_step.proofs.kinds.mark.unmark_is_its_event.Goals as goal
use Rattle.vm_step.proofs.steps.Mark.{unmark-event}

pub returns : goal.returns
returns g c = unmark-event _ _ _ _
