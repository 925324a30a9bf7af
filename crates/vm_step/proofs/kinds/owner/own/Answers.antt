use Rattle.vm_step.proofs.kinds.owner.own.Goals as goal
use Rattle.vm_step.proofs.steps.Owner.{own-allows}

pub store-requires-clause-allows : goal.store-requires-clause-allows
store-requires-clause-allows g c = own-allows _ _ _ _ _ _ _ _ _ c.args.p c.args.f c.args.pass.now.live
    c.requires.pass.1 c.requires.frame c.requires.legal c.owner_place-at.ensures.place
