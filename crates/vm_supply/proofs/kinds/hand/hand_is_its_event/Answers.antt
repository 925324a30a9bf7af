use Rattle.vm_supply.proofs.kinds.hand.hand_is_its_event.Goals as goal
use Rattle.vm_supply.proofs.steps.Bundle.{hand-event}

pub returns : goal.returns
returns g c = hand-event _ _ _ _
