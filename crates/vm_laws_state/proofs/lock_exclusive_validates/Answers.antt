use Rattle.vm_laws_state.proofs.lock_exclusive_validates.Goals as goal
use Rattle.vm_laws_state.proofs.Validate.{lock_exclusive_validates}

pub returns : goal.returns
returns c = lock_exclusive_validates
