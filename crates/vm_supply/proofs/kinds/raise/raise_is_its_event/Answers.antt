use Rattle.vm_supply.proofs.kinds.raise.raise_is_its_event.Goals as goal
use Rattle.vm_supply.proofs.steps.Block.{raise-event}

pub returns : goal.returns
returns g c start s id p count v w = raise-event _ start _ _ _ s id p count v w
