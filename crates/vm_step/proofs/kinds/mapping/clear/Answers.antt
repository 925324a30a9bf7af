use Rattle.vm_step.proofs.{Prelude.refl, steps.Mapping.clear-allows}
use Rattle.vm_step.proofs.kinds.mapping.clear.Goals as goal

pub store-requires-clause-allows : goal.store-requires-clause-allows
store-requires-clause-allows g c = clear-allows _ _ _ _ _ _ _ _ _ c.args.p _ c.args.pass.now.live c.requires.pass.1
    c.translation_place-at.ensures.place c.requires.legal.0 c.requires.legal.1 refl
