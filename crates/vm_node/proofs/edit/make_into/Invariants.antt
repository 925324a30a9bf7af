-- The last words are written.
use Rattle.vm_node.specs.declared.edit.Edit.TheVariants.{Into}
use Rattle.vm_node.specs.Edited.{edited_word}
use Rattle.vm_node.proofs.Making.{IsMadeAbove}
use Rattle.vm_node.proofs.edit.make_into.Given as goal

abbrev pub invariant-loop-done : goal.invariant-loop-done
invariant-loop-done g l = IsMadeAbove g.row.N l.fn.page l.page (edited_word g.row.N l.fn.page (Into l.at l.count l.key l.value)) l.done
