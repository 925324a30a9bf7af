use Rattle.vm_numbers.proofs.Passes.{split_keeps}
use Rattle.vm_numbers.proofs.splits_keep.Goals as goal

pub returns : goal.returns
returns c = split_keeps
