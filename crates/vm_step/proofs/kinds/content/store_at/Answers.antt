use Rattle.vm_step.proofs.kinds.content.store_at.Goals as goal
use Rattle.vm_step.proofs.steps.Content.{placed-from, store-allows}

pub store-requires-clause-allows : goal.store-requires-clause-allows
store-requires-clause-allows g c = store-allows _ _ _ _ _ _ _ _ _ c.args.f c.args.i c.args.w c.args.pass.now.live
    c.requires.pass.1 c.requires.frame.0 c.requires.frame.1 c.requires.legal
    (placed-from _ c.args.f c.args.first c.args.i c.requires.first.place)
