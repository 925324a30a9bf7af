use Rattle.vm_tree_laws.proofs.Descents.{way_ends}
use Rattle.vm_tree_laws.proofs.descent.way_ends_at_the_leaf.Goals as goal

pub returns : goal.returns
returns c = way_ends
