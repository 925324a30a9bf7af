use Rattle.vm_supply.proofs.kinds.catch_up.catch_up_is_its_event.Goals as goal
use Rattle.vm_supply.proofs.steps.CatchUp.{catch_up-event}

pub returns : goal.returns
returns g c = catch_up-event _ _ _ _
