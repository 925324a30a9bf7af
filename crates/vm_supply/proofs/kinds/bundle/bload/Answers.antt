use Rattle.vm_supply.proofs.kinds.bundle.bload.Goals as goal
use Rattle.vm_supply.proofs.steps.Bundle.{bload-allows}

pub load-requires-clause-allows : goal.load-requires-clause-allows
load-requires-clause-allows g c = bload-allows _ _ _ _ _ _ _ _ _ c.args.g c.args.pass.now.live c.requires.pass.1
    c.requires.bundle c.bundle_place-at.ensures.place
