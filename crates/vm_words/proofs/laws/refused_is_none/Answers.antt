use Rattle.vm_words.proofs.Lines.{refused_is_none}
use Rattle.vm_words.proofs.laws.refused_is_none.Goals as goal

pub returns : goal.returns
returns c = refused_is_none
