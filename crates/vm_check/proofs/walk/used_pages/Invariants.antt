use Rattle.std.proofs.Common.{◌≡◌, ◌+◌, ◌≤◌, drop}
use Rattle.vm_tree_model.specs.Reason.{first_lost, used_pages}
use Rattle.vm_check.proofs.walk.used_pages.Given as goal

abbrev pub invariant-loop-p : goal.invariant-loop-p
invariant-loop-p g l = record {
  lost : first_lost g.F.Nodes.layout (drop l.p l.image) l.visited l.p ≡ first_lost g.F.Nodes.layout (drop 1 l.image) l.visited 1;
  used : l.used + used_pages (drop l.p l.image) ≡ used_pages l.image;
  few : l.used ≤ l.p;
}
