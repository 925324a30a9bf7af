-- The library's order of slices is that of words in a dictionary.
use Rattle.vm_bytes_node.proofs.KeyTests.{before_answers}
use Rattle.vm_bytes_node.proofs.order.is_lower.Goals as goal

pub returns : goal.returns
returns c = before_answers c.args.left.now c.args.right.now c.requires.left c.requires.right _ c.lt.ensures
