use Rattle.vm_step.proofs.kinds.number.pbload.Goals as goal
use Rattle.vm_step.proofs.steps.Number.{pbload-allows}

pub load-requires-clause-allows : goal.load-requires-clause-allows
load-requires-clause-allows g c = pbload-allows _ _ _ _ _ _ _ _ _ c.args.g c.args.pass.now.live c.requires.pass.1
    c.requires.word c.spare_place-at.ensures.place
