use Rattle.vm_laws_device.proofs.claim_keeps.Goals as goal
use Rattle.vm_laws_device.proofs.Laws.{claim_law}

pub returns : goal.returns
returns c = claim_law
