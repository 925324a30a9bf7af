use Rattle.std.proofs.Common.{◌≡◌, length}
use Rattle.vm_bytes_drive.proofs.driving.no_memory.Given as goal

abbrev pub invariant-workers : goal.invariant-workers
invariant-workers l = length l.memories.items ≡ l._worker
