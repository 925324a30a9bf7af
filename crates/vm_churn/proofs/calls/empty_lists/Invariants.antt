use Rattle.std.proofs.Common.{[], ◌≡◌, replicate}
use Rattle.vm_drive.specs.Drives.{items_of}
use Rattle.vm_churn.proofs.calls.empty_lists.Given as goal

abbrev pub invariant-workers : goal.invariant-workers
invariant-workers l = items_of l.lists.items ≡ replicate l._worker []
