use Rattle.vm_numbers.proofs.Steps.{later_keeps}
use Rattle.vm_numbers.proofs.later_releases_keep.Goals as goal

pub returns : goal.returns
returns c = later_keeps
