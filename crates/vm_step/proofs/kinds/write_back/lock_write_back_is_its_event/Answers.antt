use Rattle.vm_step.proofs.kinds.write_back.lock_write_back_is_its_event.Goals as goal
use Rattle.vm_step.proofs.steps.WriteBack.{lock_write_back-event}

pub returns : goal.returns
returns g c = lock_write_back-event _ _ _ _
