use Rattle.vm_step.proofs.kinds.content.load_is_its_event.Goals as goal
use Rattle.vm_step.proofs.steps.Content.{load-event}

pub returns : goal.returns
returns g c = load-event _ _ _ _
