use Rattle.vm_words.proofs.Lines.{line_meanings, line_verb, one_command}
use Rattle.vm_words.proofs.laws.one_line.Goals as goal

pub returns-clause-verb : goal.returns-clause-verb
returns-clause-verb c = line_verb

pub returns-clause-meanings : goal.returns-clause-meanings
returns-clause-meanings c = line_meanings

pub returns-clause-command : goal.returns-clause-command
returns-clause-command c = one_command
