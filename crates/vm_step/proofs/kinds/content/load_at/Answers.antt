use Rattle.vm_step.proofs.kinds.content.load_at.Goals as goal
use Rattle.vm_step.proofs.steps.Content.{load-allows, placed-from}

pub load-requires-clause-allows : goal.load-requires-clause-allows
load-requires-clause-allows g c = load-allows _ _ _ _ _ _ _ _ _ c.args.p c.args.f c.args.i c.args.pass.now.live
    c.requires.pass.1 c.requires.page.0 c.requires.page.1 c.requires.page.2 c.requires.frame
    (placed-from _ c.args.f c.args.first c.args.i c.requires.first.place)
