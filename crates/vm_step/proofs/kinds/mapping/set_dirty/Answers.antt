use Rattle.vm_step.proofs.kinds.mapping.set_dirty.Goals as goal
use Rattle.vm_step.proofs.steps.Mapping.{set_dirty-allows}

pub store-requires-clause-allows : goal.store-requires-clause-allows
store-requires-clause-allows g c = set_dirty-allows _ _ _ _ _ _ _ _ _ c.args.p _ c.args.pass.now.live
    c.requires.pass.1 c.translation_place-at.ensures.place c.args.f c.requires.legal c.of-dirty.ensures.word
