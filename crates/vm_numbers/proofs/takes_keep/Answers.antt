use Rattle.vm_numbers.proofs.Steps.{take_keeps}
use Rattle.vm_numbers.proofs.takes_keep.Goals as goal

pub returns : goal.returns
returns c = take_keeps
