use Rattle.vm_step.proofs.kinds.content.fill_is_its_event.Goals as goal
use Rattle.vm_step.proofs.steps.Content.{fill-event}

pub returns : goal.returns
returns g c = fill-event _ _ _ _
