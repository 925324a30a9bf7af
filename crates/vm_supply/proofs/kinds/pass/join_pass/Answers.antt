use Rattle.vm_step.proofs.Prelude.{view}
use Rattle.vm_supply.proofs.steps.CatchUp.{catch_up-allows}
use Rattle.vm_supply.proofs.kinds.pass.join_pass.Goals as goal
use Rattle.vm_supply.proofs.steps.Pass.{join-told, joins-any, more-used}

pub take_in-requires-clause-allows : goal.take_in-requires-clause-allows
take_in-requires-clause-allows g c = catch_up-allows _ _ _ _ _ _ _ _ _ c.args.pass.now.live
    (more-used (view c.args.pass.now) (view c.args.other) c.requires.pass.1) c.next_place-at.ensures.place

pub take_in-requires-clause-joins : goal.take_in-requires-clause-joins
take_in-requires-clause-joins g c = joins-any _ _ _ _ _ _ _ _ _ c.args.pass.now.live c.args.other.live
    c.args.pass.now.settled c.args.other.settled c.requires.nothing

pub returns-clause-told : goal.returns-clause-told
returns-clause-told g c = join-told _ _ _ c.take_in.ensures.told.1.caught
