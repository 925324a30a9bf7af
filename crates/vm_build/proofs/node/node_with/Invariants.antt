use Rattle.std.proofs.Common.{◌≡◌, length}
use Rattle.vm_build.proofs.Written.{written}
use Rattle.vm_build.proofs.node.node_with.Given as goal

abbrev pub invariant-loop-i : goal.invariant-loop-i
invariant-loop-i g l = (l.page ≡ written g.row.N l.level l.low l.fn.high l.run l.i) × (length l.page ≡ g.row.N)
