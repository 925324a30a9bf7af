use Rattle.vm_step.proofs.kinds.number.ptake.Goals as goal
use Rattle.vm_step.proofs.steps.Number.{ptake-allows}

pub compare_exchange-requires-clause-allows : goal.compare_exchange-requires-clause-allows
compare_exchange-requires-clause-allows g c = ptake-allows _ _ _ _ g.U.Owner.numbers _ _ _ _ _ c.args.g c.args.expects
    c.args.mask c.args.pass.now.live c.requires.pass.1 c.requires.word c.requires.legal c.spare_place-at.ensures.place
