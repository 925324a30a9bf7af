use Rattle.vm_tree_laws.proofs.Descents.{child_there}
use Rattle.vm_tree_laws.proofs.descent.child_is_there.Goals as goal

pub returns : goal.returns
returns c = child_there
