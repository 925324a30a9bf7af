use Rattle.vm_step.proofs.kinds.content.store_is_its_event.Goals as goal
use Rattle.vm_step.proofs.steps.Content.{store-event}

pub returns : goal.returns
returns g c = store-event _ _ _ _
