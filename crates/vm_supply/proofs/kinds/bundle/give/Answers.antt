use Rattle.vm_supply.proofs.kinds.bundle.give.Goals as goal
use Rattle.vm_supply.proofs.steps.Bundle.{give-allows}

pub fetch_or-requires-clause-allows : goal.fetch_or-requires-clause-allows
fetch_or-requires-clause-allows g c = give-allows _ _ _ _ _ _ _ _ _ c.args.g c.args.mask c.args.pass.now.live
    c.requires.pass.1 c.requires.bundle c.requires.legal c.ranges.mask.fits c.bundle_place-at.ensures.place
