use Rattle.vm_tree_laws.proofs.Descents.{reached_child}
use Rattle.vm_tree_laws.proofs.descent.child_is_reached.Goals as goal

pub returns : goal.returns
returns c = reached_child
