use Rattle.vm_supply.proofs.kinds.bundle.take_is_its_event.Goals as goal
use Rattle.vm_supply.proofs.steps.Bundle.{take-event}

pub returns : goal.returns
returns g c = take-event _ _ _ _
