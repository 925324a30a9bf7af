use Rattle.vm_supply.proofs.kinds.pass.follow_is_its_event.Goals as goal
use Rattle.vm_supply.proofs.steps.Pass.{follow-event}

pub returns : goal.returns
returns g c = follow-event _ _ _ _
