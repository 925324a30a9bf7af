use Rattle.vm_step.proofs.kinds.lock.lock_exclusive_is_its_event.Goals as goal
use Rattle.vm_step.proofs.steps.Lock.{lock_exclusive-event}

pub returns : goal.returns
returns g c = lock_exclusive-event _ _ _ _
