-- A del takes the pair out, or finds none.
use Rattle.std.proofs.Common.{Some, sym, ap, ◌∙◌}
use Rattle.vm_tree_model.specs.Fixed.{fixed, fixed_pairs}
use Rattle.vm_node.proofs.Indexes.{found_at}
use Rattle.vm_node.proofs.Dels.{del_takes}
use Rattle.vm_node.proofs.Editing.{out_is}
use Rattle.vm_node.proofs.Leaves.{takes_leaf}
use Rattle.vm_node.proofs.edit.del_edit.Goals as goal

pub returns-clause-was : goal.returns-clause-was
returns-clause-was g c low high rises = ap Some c.value_at.ensures.pair
    ∙ sym (found_at (fixed_pairs g.row.N c.args.page.now) c.args.key c.in-Some.at
    (c.in-Some.ensures.rising low high rises))

pub returns-clause-node : goal.returns-clause-node
returns-clause-node g c low high rises =
    del_takes g.row.N c.requires _ _ _ _ c.args.key
    (out_is g.row.N c.requires c.args.page.now c.count_of-count.ensures.words c.in-Some.at c.count_of-count.result
    c.count_of-count.ensures.count (rw c.count_of-count.ensures.pairs c.in-Some.ensures.some.there))
    (c.in-Some.ensures.rising low high rises).place

pub returns-clause-leaf : goal.returns-clause-leaf
returns-clause-leaf g c leaf = takes_leaf (fixed g.row.N) _ _ _ (returns-clause-node g c _ _ leaf.node.rises) leaf
