-- The count is the page's second word, or the number of words behind the header where that is more.
use Rattle.std.proofs.Common.{arith}
use Rattle.vm_node.proofs.Telling.{told_word, told_so}
use Rattle.vm_bytes_node.proofs.SlotLemmas.{count_is}
use Rattle.vm_bytes_node.proofs.slots.count_at.Goals as goal

pub returns-clause-told : goal.returns-clause-told
returns-clause-told g c = told_so (omega arith) (told_word c.word.ensures.loads)
    (λ words size read. omega (arith, count_is words size, read, c.min.ensures))
