-- An inner node with one child more is an inner node.
use Rattle.vm_tree_model.specs.Fixed.{fixed}
use Rattle.vm_inner.proofs.InnerNodes.{adds_inner}
use Rattle.vm_inner.proofs.children.add.Goals as goal

pub returns-clause-inner : goal.returns-clause-inner
returns-clause-inner g c inner covers = adds_inner (fixed g.row.N) _ _ _ _ (c.in_ok-put.ensures.node _ _ inner.node.rises) inner covers
