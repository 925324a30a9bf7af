-- The halves of an inner node are inner nodes.
use Rattle.vm_tree_model.specs.Fixed.{fixed}
use Rattle.vm_node.proofs.SplitWords.{cut_some, cut_inside}
use Rattle.vm_inner.proofs.InnerNodes.{left_inner, right_inner}
use Rattle.vm_inner.proofs.children.split_inner.Goals as goal

pub returns-clause-left_inner : goal.returns-clause-left_inner
returns-clause-left_inner g c = left_inner (fixed g.row.N) _ _ _ _ c.split.ensures.halves
    (cut_some g.row.N c.requires.sized _ c.requires.full) (cut_inside g.row.N c.requires.sized _ c.requires.full)

pub returns-clause-right_inner : goal.returns-clause-right_inner
returns-clause-right_inner g c = right_inner (fixed g.row.N) _ _ _ _ c.split.ensures.halves
    (cut_some g.row.N c.requires.sized _ c.requires.full) (cut_inside g.row.N c.requires.sized _ c.requires.full)
