use Rattle.vm_step.proofs.{Prelude.arith, steps.Mapping.install-allows}
use Rattle.vm_step.proofs.kinds.mapping.install.Goals as goal

pub store-requires-clause-allows : goal.store-requires-clause-allows
store-requires-clause-allows g c = install-allows _ _ _ _ _ _ _ _ _ c.args.p _ c.args.pass.now.live c.requires.pass.1
    c.translation_place-at.ensures.place c.args.f c.requires.page c.requires.frame
    (let small = c.ranges.f.fits in omega (arith, small)) c.requires.legal c.of-new.ensures.word
