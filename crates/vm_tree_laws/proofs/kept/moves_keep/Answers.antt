use Rattle.vm_tree_laws.proofs.Laws.{moves_keep}
use Rattle.vm_tree_laws.proofs.kept.moves_keep.Goals as goal

pub returns : goal.returns
returns c = moves_keep
