use Rattle.std.proofs.Common.{◌≡◌, ◌≤◌, length}
use Rattle.vm_serve.specs.from_vm_drive.Drives.{AreAskable, AreFew, items_of}
use Rattle.vm_drive_callers.proofs.calls.shares.Given as goal

abbrev pub invariant-loop-worker : goal.invariant-loop-worker
invariant-loop-worker l = record {
  within : l.worker ≤ l.workers;
  long : length l.lists.items ≡ l.worker;
  few : AreFew (items_of l.lists.items);
  askable : AreAskable (items_of l.lists.items);
}
