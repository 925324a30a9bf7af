use Rattle.std.proofs.Common.{◌++◌, ◌≡◌, drop}
use Rattle.vm_serve.specs.from_vm_calls.Compact.{all_replies}
use Rattle.vm_serve.specs.from_vm_drive.Drives.{items_of}
use Rattle.vm_script.specs.Texts.{worker_replies}
use Rattle.vm_endings.specs.Replies.{all_lines}
use Rattle.vm_endings.proofs.replies.add_replies.Given as goal

abbrev pub invariant-workers : goal.invariant-workers
invariant-workers l = record {
  worker : l.worker ≡ l.answers-index;
  told : l.out.items ++ worker_replies l.answers-index
      (all_lines (items_of (drop l.answers-index l.lists)) (all_replies (drop l.answers-index l.replies)))
      ≡ l.fn.out.items ++ worker_replies 0 (all_lines (items_of l.lists) (all_replies l.replies));
}
