use Rattle.vm_numbers.proofs.Steps.{first_keeps}
use Rattle.vm_numbers.proofs.first_releases_keep.Goals as goal

pub returns : goal.returns
returns c = first_keeps
