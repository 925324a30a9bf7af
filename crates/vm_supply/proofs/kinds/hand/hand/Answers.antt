use Rattle.vm_supply.proofs.kinds.hand.hand.Goals as goal
use Rattle.vm_supply.proofs.steps.Bundle.{hand-allows}

pub fetch_add-requires-clause-allows : goal.fetch_add-requires-clause-allows
fetch_add-requires-clause-allows g c = hand-allows _ _ _ _ _ _ _ _ _ c.args.pass.now.live c.requires.pass.1 c.hand_place-at.ensures.place
