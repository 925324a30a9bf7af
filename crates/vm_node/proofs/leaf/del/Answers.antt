-- A del makes the edit that it found, or finds none.
use Rattle.std.proofs.Common.{sym, ◌∙◌}
use Rattle.vm_tree_model.specs.Fixed.{fixed}
use Rattle.vm_node.proofs.Dels.{takes_none}
use Rattle.vm_node.proofs.Leaves.{takes_leaf}
use Rattle.vm_node.proofs.leaf.del.Goals as goal

pub returns-in_err-was-clause-was : goal.returns-in_err-was-clause-was
returns-in_err-was-clause-was g c low high rises = c.from_residual.ensures ∙ c.in_err-was.ensures.was low high rises

pub returns-in_err-was-clause-node : goal.returns-in_err-was-clause-node
returns-in_err-was-clause-node g c low high rises =
    takes_none g.row.N c.args.page.now c.args.key (sym (c.in_err-was.ensures.was low high rises))

pub returns-in_err-was-clause-leaf : goal.returns-in_err-was-clause-leaf
returns-in_err-was-clause-leaf g c leaf = takes_leaf (fixed g.row.N) _ _ _ (returns-in_err-was-clause-node g c _ _ leaf.node.rises) leaf

pub returns-clause-node : goal.returns-clause-node
returns-clause-node g c low high rises = rw c.make.ensures (c.in_ok-was.ensures.node low high rises)

pub returns-clause-leaf : goal.returns-clause-leaf
returns-clause-leaf g c leaf = rw c.make.ensures (c.in_ok-was.ensures.leaf leaf)
