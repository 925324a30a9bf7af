use Rattle.vm_step.proofs.kinds.translate.tload.Goals as goal
use Rattle.vm_step.proofs.steps.Translate.{tload-allows}

pub load-requires-clause-allows : goal.load-requires-clause-allows
load-requires-clause-allows g c = tload-allows _ _ _ _ _ _ _ _ _ c.args.p c.args.pass.now.live c.requires.pass.1
    c.requires.page c.translation_place-at.ensures.place
