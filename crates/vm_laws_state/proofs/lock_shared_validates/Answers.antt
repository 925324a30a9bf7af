use Rattle.vm_laws_state.proofs.lock_shared_validates.Goals as goal
use Rattle.vm_laws_state.proofs.Validate.{lock_shared_validates}

pub returns : goal.returns
returns c = lock_shared_validates
