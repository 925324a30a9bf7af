use Rattle.vm_supply.proofs.kinds.pass.hearing_is_no_event.Goals as goal
use Rattle.vm_supply.proofs.steps.Pass.{hearing-no-event}

pub returns : goal.returns
returns g c start s id other v w is apart at-other live here there only =
    hearing-no-event _ _ _ start _ s id v is other w apart at-other live here there only
