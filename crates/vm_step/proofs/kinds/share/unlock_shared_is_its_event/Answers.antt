use Rattle.vm_step.proofs.kinds.share.unlock_shared_is_its_event.Goals as goal
use Rattle.vm_step.proofs.steps.Share.{unlock_shared-event}

pub returns : goal.returns
returns g c = unlock_shared-event _ _ _ _
