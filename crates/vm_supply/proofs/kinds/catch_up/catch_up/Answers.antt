use Rattle.vm_supply.proofs.kinds.catch_up.catch_up.Goals as goal
use Rattle.vm_supply.proofs.steps.CatchUp.{catch_up-allows}

pub load-requires-clause-allows : goal.load-requires-clause-allows
load-requires-clause-allows g c = catch_up-allows _ _ _ _ _ _ _ _ _ c.args.pass.now.live c.requires.pass.1 c.next_place-at.ensures.place
