use Rattle.std.proofs.Common.{◌∙◌, ◌≡◌, false, refl, sym, true}
use Rattle.vm_reading.specs.from_vm_endings.Tests.{here, past}
use Rattle.vm_reading.specs.from_vm_endings.Limits.{are_frames, are_workers}
use Rattle.vm_file_serve.proofs.serve.workers_of.Goals as goal

pub returns-then-not-are_workers : goal.returns-then-not-are_workers
returns-then-not-are_workers c =
    let workers : are_workers c.args.serve.now.workers ≡ false = sym c.are_workers.ensures ∙ c.if-not-are_workers.true in
    here (workers, refl)

pub returns-then-not-are_frames : goal.returns-then-not-are_frames
returns-then-not-are_frames c =
    let workers : are_workers c.args.serve.now.workers ≡ true = sym c.are_workers.ensures ∙ c.if-not-are_workers.false in
    let frames : are_frames c.args.serve.now.workers c.args.serve.now.frames ≡ false = sym c.are_frames.ensures ∙ c.if-not-are_frames.true in
    past workers (here (frames, refl))
