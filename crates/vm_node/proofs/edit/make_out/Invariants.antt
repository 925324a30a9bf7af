-- The words below i are written.
use Rattle.vm_node.specs.declared.edit.Edit.TheVariants.{Out}
use Rattle.vm_node.specs.Edited.{edited_word}
use Rattle.vm_node.proofs.Making.{IsMadeBelow}
use Rattle.vm_node.proofs.edit.make_out.Given as goal

abbrev pub invariant-loop-i : goal.invariant-loop-i
invariant-loop-i g l = IsMadeBelow g.row.N l.fn.page l.page (edited_word g.row.N l.fn.page (Out l.at l.count)) l.i
