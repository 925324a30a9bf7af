-- The other interface found no frame, so the frames of the first one are held as before.
use Rattle.std.proofs.Common.{refl}
use Rattle.vm_step.specs.Prelude.{view}
use Rattle.vm_exmap.proofs.Handing.{held-on, held-swap}
use Rattle.vm_test_frames.proofs.exmap.frames_that_one_interface_gives_back_another_takes.Goals as goal

pub free-requires-clause-frames : goal.free-requires-clause-frames
free-requires-clause-frames g c =
    let dry = c.in-Dry.ensures.answer in
    held-swap c.in-Batch.all c.alloc-2.new.self.frames (view c.alloc-3.new.pass)
    (held-on _ (view c.alloc-2.new.pass) (view c.alloc-3.new.pass) (c.in-Batch.ensures.batch c.in-Batch.all refl)
    dry.refused.moves.start dry.refused.frames)
