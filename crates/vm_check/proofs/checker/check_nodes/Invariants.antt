use Rattle.std.proofs.Common.{◌≡◌}
use Rattle.vm_tree_model.specs.Reason.{walked, unseen_pages}
use Rattle.vm_check.specs.Progress.{IsGoing, outcome, reached}
use Rattle.vm_check.proofs.checker.check_nodes.Given as goal

abbrev pub invariant-loop-slot : goal.invariant-loop-slot
invariant-loop-slot g l = record {
  going : IsGoing l.image (reached g.F.Nodes.rank g.F.Nodes.layout.key_end g.F.Nodes.pair l.walk);
  same : outcome g.F.Nodes.layout l.image (reached g.F.Nodes.rank g.F.Nodes.layout.key_end g.F.Nodes.pair l.walk) ≡ walked g.F.Nodes.layout l.image;
}

abbrev pub decreases-loop-slot : goal.decreases-loop-slot
decreases-loop-slot g l = unseen_pages l.walk.visited.items
