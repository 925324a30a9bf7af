use Rattle.std.proofs.Common.{◌≡◌, replicate}
use Rattle.vm_core.proofs.initial.start_frames.Given as goal

abbrev pub invariant-loop-f : goal.invariant-loop-f
invariant-loop-f l = l.frames.items ≡ replicate l.f (replicate 64 0)
