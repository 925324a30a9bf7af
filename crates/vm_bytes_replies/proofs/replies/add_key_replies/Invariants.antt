use Rattle.std.proofs.Common.{◌++◌, ◌≡◌, drop}
use Rattle.vm_bytes_serve.specs.from_vm_drive.Drives.{items_of}
use Rattle.vm_bytes_replies.specs.KeyLines.{key_worker_lines}
use Rattle.vm_bytes_replies.proofs.Telling.{all_told}
use Rattle.vm_bytes_replies.proofs.replies.add_key_replies.Given as goal

abbrev pub invariant-workers : goal.invariant-workers
invariant-workers l = record {
  worker : l.worker ≡ l.answers-index;
  told : l.out.items ++ key_worker_lines l.answers-index (drop l.answers-index (items_of l.lists))
      (drop l.answers-index (all_told l.replies)) ≡ l.fn.out.items
      ++ key_worker_lines 0 (items_of l.lists) (all_told l.replies);
}
