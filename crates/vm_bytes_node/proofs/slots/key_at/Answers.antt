use Rattle.std.proofs.Common.{sym, ap, ◌∙◌, arith}
use Rattle.vm_bytes_form.specs.Forms.{KeyEntry, string_at}
use Rattle.vm_node.proofs.Telling.{told_word, told_then, told_so}
use Rattle.vm_bytes_node.proofs.SlotLemmas.{entry_is}
use Rattle.vm_bytes_node.proofs.slots.key_at.Goals as goal

pub returns-clause-told : goal.returns-clause-told
returns-clause-told g c =
    told_so (omega arith) (told_then g.met.P.Place.join (told_word c.word-slot.ensures.loads) c.string_at.ensures.told)
    (λ words size read there. read.1 ∙ ap (string_at words) (sym read.0)
    ∙ sym (ap (λ (e : KeyEntry). e.0) (entry_is words size c.args.i there)))
