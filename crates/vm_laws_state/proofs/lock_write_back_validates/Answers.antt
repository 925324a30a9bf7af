use Rattle.vm_laws_state.proofs.lock_write_back_validates.Goals as goal
use Rattle.vm_laws_state.proofs.Validate.{lock_write_back_validates}

pub returns : goal.returns
returns c = lock_write_back_validates
