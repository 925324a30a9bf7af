use Rattle.vm_supply.proofs.kinds.pass.split_is_no_event.Goals as goal
use Rattle.vm_supply.proofs.steps.Pass.{split-no-event}

pub returns : goal.returns
returns g c start s id part v is number = split-no-event _ _ _ start _ s id v is part number
