-- Each word is written where the one before it was.
use Rattle.std.proofs.Common.{arith}
use Rattle.vm_node.proofs.Sizes.{eight_some}
use Rattle.vm_node.proofs.Making.{below_all}
use Rattle.vm_node.proofs.halves.make_left.Goals as goal

pub returns : goal.returns
returns g c = below_all (eight_some g.row.N c.requires) c.loop-i.invariant (omega arith)
