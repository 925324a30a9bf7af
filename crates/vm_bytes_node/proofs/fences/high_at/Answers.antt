use Rattle.std.proofs.Common.{ℕ, List, Some, sym, ap, arith, ◌∙◌}
use Rattle.vm_bytes_form.specs.Forms.{string_at}
use Rattle.vm_node.proofs.Telling.{told_word, told_then, told_so}
use Rattle.vm_bytes_node.proofs.HeaderLemmas.{high_none, high_some}
use Rattle.vm_bytes_node.proofs.fences.high_at.Goals as goal

pub returns-then-slot-eq0-clause-told : goal.returns-then-slot-eq0-clause-told
returns-then-slot-eq0-clause-told g c = told_so (omega arith) (told_word c.word-slot.ensures.loads)
    (λ words size read. sym (high_none words (read ∙ c.if-slot-eq0.true)))

pub returns-clause-told : goal.returns-clause-told
returns-clause-told g c = told_so (omega arith) (told_then g.met.P.Place.join
    (told_word c.word-slot.ensures.loads) c.string_at.ensures.told)
    (λ words size read. ap (λ (s : List ℕ). Some s) (read.1 ∙ ap (string_at words) (sym read.0))
    ∙ sym (high_some words (λ none. c.if-slot-eq0.false (sym read.0 ∙ none))))
