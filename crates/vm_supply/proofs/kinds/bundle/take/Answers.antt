use Rattle.vm_supply.proofs.kinds.bundle.take.Goals as goal
use Rattle.vm_supply.proofs.steps.Bundle.{take-allows}

pub compare_exchange-requires-clause-allows : goal.compare_exchange-requires-clause-allows
compare_exchange-requires-clause-allows g c = take-allows _ _ _ _ _ _ _ _ _ c.args.g c.args.expects c.args.mask
    c.args.pass.now.live c.requires.pass.1 c.requires.bundle c.requires.legal c.bundle_place-at.ensures.place
