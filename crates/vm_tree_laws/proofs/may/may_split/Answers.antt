use Rattle.vm_tree_laws.proofs.Established.{may_split}
use Rattle.vm_tree_laws.proofs.may.may_split.Goals as goal

pub returns : goal.returns
returns c = may_split
