-- What was told of the page in the buffer holds of the page; a leaf's window is all that it has up to the bound.
use Rattle.vm_tree_model.specs.Fixed.{fixed}
use Rattle.vm_node.proofs.LeafWindows.{leaf_window}
use Rattle.vm_node.proofs.Telling.{told_buffer}
use Rattle.vm_node.proofs.shown.window.Goals as goal

pub returns-clause-first : goal.returns-clause-first
returns-clause-first g c = told_buffer c.window_at.ensures.told c.window_at.ensures.told.through
    c.in_buffer-place.ensures.same c.in_buffer-place.ensures.size

pub returns-clause-leaf : goal.returns-clause-leaf
returns-clause-leaf g c leaf = leaf_window (fixed g.row.N) _ _ _ _ (returns-clause-first g c _ _ leaf.node.rises) leaf
