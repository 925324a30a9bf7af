use Rattle.vm_words.proofs.Lines.{taken_is_whole}
use Rattle.vm_words.proofs.laws.taken_words_are_whole.Goals as goal

pub returns : goal.returns
returns c = taken_is_whole
