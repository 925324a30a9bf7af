use Rattle.vm_step.proofs.kinds.translate.tload_is_its_event.Goals as goal
use Rattle.vm_step.proofs.steps.Translate.{tload-event}

pub returns : goal.returns
returns g c = tload-event _ _ _ _
