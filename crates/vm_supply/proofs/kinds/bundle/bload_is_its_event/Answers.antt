use Rattle.vm_supply.proofs.kinds.bundle.bload_is_its_event.Goals as goal
use Rattle.vm_supply.proofs.steps.Bundle.{bload-event}

pub returns : goal.returns
returns g c = bload-event _ _ _ _
