use Rattle.std.proofs.Common.{arith}
use Rattle.vm_bytes_node.proofs.order.words_of.Goals as goal

pub returns : goal.returns
returns c = omega (arith, c.div_ceil.ensures)
