use Rattle.vm_supply.proofs.kinds.pass.follow_pass.Goals as goal
use Rattle.vm_supply.proofs.steps.Pass.{follow-allows, hears-any}

pub take_in-requires-clause-allows : goal.take_in-requires-clause-allows
take_in-requires-clause-allows g c = follow-allows _ _ _ _ _ _ _ _ _ c.args.pass.now.live c.requires.pass.1
    c.requires.releases c.requires.seen c.next_place-at.ensures.place

pub take_in-requires-clause-joins : goal.take_in-requires-clause-joins
take_in-requires-clause-joins g c = hears-any _ _ _ _ _ _ _ _ _ c.args.pass.now.live c.args.other.live
    c.args.pass.now.settled c.args.other.settled c.requires.only
