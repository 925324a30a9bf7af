use Rattle.std.proofs.Common.{◌∙◌, arith, sym}
use Rattle.vm_event.proofs.WordBits.{frame-of, top-clear, top-set}
use Rattle.vm_event.proofs.words.TransWord.of.Goals as goal

pub returns-then-dirty-clause-frame : goal.returns-then-dirty-clause-frame
returns-then-dirty-clause-frame c = frame-of _ c.args.frame (omega (arith, c.ranges.frame.fits))
    (omega (arith, c.from-low.ensures, c.ranges.frame.fits))

pub returns-then-dirty-clause-dirty : goal.returns-then-dirty-clause-dirty
returns-then-dirty-clause-dirty c = top-set _ (omega (arith, c.from-low.ensures, c.ranges.frame.fits)) ∙ sym c.if-dirty.true

pub returns-else-dirty-clause-frame : goal.returns-else-dirty-clause-frame
returns-else-dirty-clause-frame c = frame-of _ c.args.frame (omega (arith, c.ranges.frame.fits))
    (omega (arith, c.from-low.ensures, c.ranges.frame.fits))

pub returns-else-dirty-clause-dirty : goal.returns-else-dirty-clause-dirty
returns-else-dirty-clause-dirty c = top-clear _ (omega (arith, c.from-low.ensures, c.ranges.frame.fits)) ∙ sym c.if-dirty.false
