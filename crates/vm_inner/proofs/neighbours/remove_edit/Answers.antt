-- An inner node from which an edit takes a child is an inner node.
use Rattle.std.proofs.Common.{ℕ, Option, Some, None}
use Rattle.std.specs.Option.{IfSome}
use Rattle.vm_tree_model.specs.Fixed.{fixed}
use Rattle.vm_tree_model.specs.Edits.{TakesPair}
use Rattle.vm_tree_model.specs.Page.{IsInner}
use Rattle.vm_node.specs.Edited.{edited}
use Rattle.vm_node.specs.declared.edit.Edit.{Edit}
use Rattle.vm_inner.proofs.InnerNodes.{takes_inner}
use Rattle.vm_inner.proofs.neighbours.remove_edit.Goals as goal

pub returns-clause-inner : goal.returns-clause-inner
returns-clause-inner g c inner above = go c.del_edit.result (c.del_edit.ensures.node _ _ inner.node.rises)
  where
    go : (o : Option (ℕ × Edit))
        → IfSome o (λ r. TakesPair (fixed g.row.N) c.args.page.now (edited g.row.N c.args.page.now r.1) c.args.key)
        → IfSome o (λ r. IsInner (fixed g.row.N) (edited g.row.N c.args.page.now r.1))
    go None none = tt
    go (Some r) takes = takes_inner (fixed g.row.N) _ _ c.args.key takes inner above
