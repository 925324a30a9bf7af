use Rattle.vm_supply.proofs.kinds.pass.join_is_no_event.Goals as goal
use Rattle.vm_supply.proofs.steps.Pass.{join-no-event}

pub returns : goal.returns
returns g c start s id other v w is apart at-other live here there nothing =
    join-no-event _ _ _ start _ s id v is other w apart at-other live here there nothing
