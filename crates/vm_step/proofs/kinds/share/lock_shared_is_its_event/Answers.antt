use Rattle.vm_step.proofs.kinds.share.lock_shared_is_its_event.Goals as goal
use Rattle.vm_step.proofs.steps.Share.{lock_shared-event}

pub returns : goal.returns
returns g c = lock_shared-event _ _ _ _
