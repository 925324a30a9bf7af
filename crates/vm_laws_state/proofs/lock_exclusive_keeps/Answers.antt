use Rattle.vm_laws_state.proofs.Laws.{lock_exclusive_law}
use Rattle.vm_laws_state.proofs.lock_exclusive_keeps.Goals as goal

pub returns : goal.returns
returns c = lock_exclusive_law
