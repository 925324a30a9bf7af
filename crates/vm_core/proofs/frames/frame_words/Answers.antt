use Rattle.std.proofs.Common.{◌∙◌, replicate, sym}
use Rattle.std.proofs.Math.ListN.{get_or-eq_default}
use Rattle.vm_event.proofs.At.{at-get}
use Rattle.vm_core.proofs.frames.frame_words.Goals as goal

pub returns-in-Some : goal.returns-in-Some
returns-in-Some c = c.in-Some.ensures.lookup.3.1 (replicate 64 0) ∙ sym (at-get (replicate 64 0) c.args.frames.now c.args.f)

pub returns-in-None : goal.returns-in-None
returns-in-None c = sym (at-get (replicate 64 0) c.args.frames.now c.args.f ∙ get_or-eq_default c.args.frames.now
    (replicate 64 0) c.in-None.ensures.lookup.3)
