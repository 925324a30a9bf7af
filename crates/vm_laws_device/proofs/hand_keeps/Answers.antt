use Rattle.vm_laws_device.proofs.hand_keeps.Goals as goal
use Rattle.vm_laws_device.proofs.Laws.{hand_law}

pub returns : goal.returns
returns c = hand_law
