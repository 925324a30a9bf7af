use Rattle.vm_numbers.proofs.Steps.{give_keeps}
use Rattle.vm_numbers.proofs.gives_keep.Goals as goal

pub returns : goal.returns
returns c = give_keeps
