use Rattle.std.proofs.Common.{refl, arith, ◌∙◌}
use Rattle.vm_node.proofs.Telling.{told_word, told_so}
use Rattle.vm_bytes_node.proofs.HeaderLemmas.{leaf_tag, tag_is}
use Rattle.vm_bytes_node.proofs.fences.is_leaf_at.Goals as goal

pub returns-clause-told : goal.returns-clause-told
returns-clause-told g c = told_so (omega arith) (told_word c.word.ensures.loads)
    (λ words size read. leaf_tag _ c.word.result _ (tag_is words ∙ read) refl)
