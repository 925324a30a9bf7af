use Rattle.vm_tree_laws.proofs.Ranges.{holds_keep}
use Rattle.vm_tree_laws.proofs.kept.holds_keep.Goals as goal

pub returns : goal.returns
returns c = holds_keep
