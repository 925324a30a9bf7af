-- A put makes the edit that it found.
use Rattle.vm_node.proofs.leaf.put.Goals as goal

pub returns-clause-node : goal.returns-clause-node
returns-clause-node g c low high rises = rw c.make.ensures (c.in_ok-was.ensures.node low high rises)

pub returns-clause-leaf : goal.returns-clause-leaf
returns-clause-leaf g c leaf covers = rw c.make.ensures (c.in_ok-was.ensures.leaf leaf covers)
