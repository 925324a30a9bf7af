use Rattle.vm_step.proofs.kinds.mark.mark_is_its_event.Goals as goal
use Rattle.vm_step.proofs.steps.Mark.{mark-event}

pub returns : goal.returns
returns g c = mark-event _ _ _ _
