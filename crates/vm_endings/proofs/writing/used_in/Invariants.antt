use Rattle.std.proofs.Common.{◌≡◌, ◌+◌, ◌≤◌, drop}
use Rattle.vm_tree_model.specs.Reason.{used_pages}
use Rattle.vm_endings.proofs.writing.used_in.Given as goal

abbrev pub invariant-loop-p : goal.invariant-loop-p
invariant-loop-p g l = record {
  used : l.used + used_pages (drop l.p l.image) ≡ used_pages l.image;
  few : l.used ≤ l.p;
}
