use Rattle.vm_numbers.proofs.Passes.{join_keeps}
use Rattle.vm_numbers.proofs.joins_keep.Goals as goal

pub returns : goal.returns
returns c = join_keeps
