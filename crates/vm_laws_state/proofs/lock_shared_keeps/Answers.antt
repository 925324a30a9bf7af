use Rattle.vm_laws_state.proofs.Laws.{lock_shared_law}
use Rattle.vm_laws_state.proofs.lock_shared_keeps.Goals as goal

pub returns : goal.returns
returns c = lock_shared_law
