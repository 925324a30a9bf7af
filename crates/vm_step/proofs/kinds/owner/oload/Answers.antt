use Rattle.vm_step.proofs.kinds.owner.oload.Goals as goal
use Rattle.vm_step.proofs.steps.Owner.{oload-allows}

pub load-requires-clause-allows : goal.load-requires-clause-allows
load-requires-clause-allows g c = oload-allows _ _ _ _ _ _ _ _ _ c.args.f c.args.pass.now.live c.requires.pass.1
    c.requires.frame c.owner_place-at.ensures.place
