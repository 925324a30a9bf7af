use Rattle.std.proofs.Common.{arith}
use Rattle.vm_bytes_node.proofs.KeyTests.{bytes_from}
use Rattle.vm_bytes_node.proofs.order.are_bytes.Goals as goal

pub returns : goal.returns
returns c = bytes_from c.args.bytes.now (λ i. omega (arith, c.type_inv.bytes i))
