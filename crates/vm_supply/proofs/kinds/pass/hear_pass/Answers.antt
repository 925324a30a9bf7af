use Rattle.vm_supply.proofs.{steps.CatchUp.catch_up-allows, steps.Pass.hears-any}
use Rattle.vm_supply.proofs.kinds.pass.hear_pass.Goals as goal

pub take_in-requires-clause-allows : goal.take_in-requires-clause-allows
take_in-requires-clause-allows g c = catch_up-allows _ _ _ _ _ _ _ _ _ c.args.pass.now.live c.requires.pass.1 c.next_place-at.ensures.place

pub take_in-requires-clause-joins : goal.take_in-requires-clause-joins
take_in-requires-clause-joins g c = hears-any _ _ _ _ _ _ _ _ _ c.args.pass.now.live c.args.other.live
    c.args.pass.now.settled c.args.other.settled c.requires.only
