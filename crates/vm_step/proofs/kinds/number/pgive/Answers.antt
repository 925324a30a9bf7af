use Rattle.vm_step.proofs.kinds.number.pgive.Goals as goal
use Rattle.vm_step.proofs.steps.Number.{pgive-allows}

pub fetch_or-requires-clause-allows : goal.fetch_or-requires-clause-allows
fetch_or-requires-clause-allows g c = pgive-allows _ _ _ _ g.U.Owner.numbers _ _ _ _ _ c.args.g c.args.mask
    c.args.pass.now.live c.requires.pass.1 c.requires.word c.requires.legal c.ranges.mask.fits
    c.spare_place-at.ensures.place
