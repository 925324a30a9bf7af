use Rattle.vm_bytes_node.proofs.KeyTests.{same_answers}
use Rattle.vm_bytes_node.proofs.order.same_key.Goals as goal

pub returns-clause-rank : goal.returns-clause-rank
returns-clause-rank c =
    same_answers _ _ _ _ c.bytes_of.ensures.value c.bytes_of-2.ensures.value c.bytes_of.ensures.string c.bytes_of-2.ensures.string _
    c.eq.ensures
