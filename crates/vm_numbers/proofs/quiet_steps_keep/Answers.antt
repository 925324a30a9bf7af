use Rattle.vm_numbers.proofs.Steps.{quiet_keeps}
use Rattle.vm_numbers.proofs.quiet_steps_keep.Goals as goal

pub returns : goal.returns
returns c = quiet_keeps
