use Rattle.vm_words.proofs.Lines.{none_is_odd, refused_is_none}
use Rattle.vm_words.proofs.command_of.Goals as goal

pub returns-in-Ok-None-clause-refused : goal.returns-in-Ok-None-clause-refused
returns-in-Ok-None-clause-refused c =
    λ _. refused_is_none _ (none_is_odd _ c.in_ok-matches.ensures.taken _ c.in_ok-matches.ensures.entered
    (rw c.in-Ok-None.field-0-is at c.in-Ok-None.ensures))

pub returns-in-Ok-None-clause-why : goal.returns-in-Ok-None-clause-why
returns-in-Ok-None-clause-why c = λ _. none_is_odd _ c.in_ok-matches.ensures.taken _ c.in_ok-matches.ensures.entered
    (rw c.in-Ok-None.field-0-is at c.in-Ok-None.ensures)
