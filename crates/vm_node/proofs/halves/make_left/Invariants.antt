-- The words below i are written.
use Rattle.vm_node.specs.Halves.{left_word}
use Rattle.vm_node.proofs.Making.{IsMadeBelow}
use Rattle.vm_node.proofs.halves.make_left.Given as goal

abbrev pub invariant-loop-i : goal.invariant-loop-i
invariant-loop-i g l = IsMadeBelow g.row.N l.fn.page l.page (left_word g.row.N l.fn.page l.separator) l.i
