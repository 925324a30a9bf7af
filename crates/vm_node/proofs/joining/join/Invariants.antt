-- The words below i are written.
use Rattle.vm_node.specs.Joined.{word_joined}
use Rattle.vm_node.proofs.Making.{IsMadeBelow}
use Rattle.vm_node.proofs.joining.join.Given as goal

abbrev pub invariant-loop-i : goal.invariant-loop-i
invariant-loop-i g l = IsMadeBelow g.row.N l.fn.left l.left (word_joined l.fn.left l.fn.right l.first l.second) l.i
