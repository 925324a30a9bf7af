-- What was told of the page in the buffer holds of the page; an inner node has a child for each key that it covers.
use Rattle.std.proofs.Common.{MatchOption, subst}
use Rattle.vm_tree_model.specs.Fixed.{fixed}
use Rattle.vm_node.proofs.Telling.{told_buffer}
use Rattle.vm_inner.specs.Found.{FindsChildIn, FindsNoChild}
use Rattle.vm_inner.proofs.InnerNodes.{has_child}
use Rattle.vm_inner.proofs.children.child.Goals as goal

pub returns-in-Some-clause-child : goal.returns-in-Some-clause-child
returns-in-Some-clause-child g c =
    let told = told_buffer c.child_at.ensures.told c.child_at.ensures.told.through c.in_buffer-place.ensures.same
    c.in_buffer-place.ensures.size in
    (subst (λ o. MatchOption o (FindsNoChild (fixed g.row.N) c.args.page.now c.args.key)
    (λ child. FindsChildIn (fixed g.row.N) c.args.page.now c.args.key child.page child.low child.next))
    c.in-Some.is told).finds

pub returns-in-None-clause-child : goal.returns-in-None-clause-child
returns-in-None-clause-child g c =
    let told = told_buffer c.child_at.ensures.told c.child_at.ensures.told.through c.in_buffer-place.ensures.same
    c.in_buffer-place.ensures.size in
    subst (λ o. MatchOption o (FindsNoChild (fixed g.row.N) c.args.page.now c.args.key)
    (λ child. FindsChildIn (fixed g.row.N) c.args.page.now c.args.key child.page child.low child.next))
    c.in-None.is told

pub returns-in-None-clause-there : goal.returns-in-None-clause-there
returns-in-None-clause-there g c inner covers none = has_child (fixed g.row.N) c.args.page.now c.args.key inner covers
    ((returns-in-None-clause-child g c).child _ _ inner.node.rises)
