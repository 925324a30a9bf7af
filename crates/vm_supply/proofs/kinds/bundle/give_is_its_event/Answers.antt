use Rattle.vm_supply.proofs.kinds.bundle.give_is_its_event.Goals as goal
use Rattle.vm_supply.proofs.steps.Bundle.{give-event}

pub returns : goal.returns
returns g c = give-event _ _ _ _
