use Rattle.vm_supply.proofs.kinds.raise.raise.Goals as goal
use Rattle.vm_supply.proofs.steps.Raise.{raise-allows}

pub store-requires-clause-allows : goal.store-requires-clause-allows
store-requires-clause-allows g c = raise-allows _ _ _ _ _ _ _ _ _ c.args.p c.args.count c.args.pass.now.live
    c.requires.pass.1 c.requires.page c.requires.legal c.fault_place-at.ensures.place
