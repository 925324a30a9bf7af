-- The left half is made in the page itself.
use Rattle.vm_node.proofs.halves.split.Goals as goal

pub returns-clause-halves : goal.returns-clause-halves
returns-clause-halves g c = rw c.make_left.ensures c.right_half-separator.ensures.halves

pub returns-clause-left_leaf : goal.returns-clause-left_leaf
returns-clause-left_leaf g c leaf = rw c.make_left.ensures (c.right_half-separator.ensures.left_leaf leaf)
