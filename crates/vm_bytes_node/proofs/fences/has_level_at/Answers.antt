use Rattle.std.proofs.Common.{refl, arith, ◌∙◌}
use Rattle.vm_node.proofs.Telling.{told_word, told_so}
use Rattle.vm_bytes_node.proofs.HeaderLemmas.{level_is, same_level}
use Rattle.vm_bytes_node.proofs.fences.has_level_at.Goals as goal

pub returns-clause-told : goal.returns-clause-told
returns-clause-told g c = told_so (omega arith) (told_word c.word.ensures.loads)
    (λ words size read. same_level _ c.word.result c.args.level _ (level_is words ∙ read) refl)
