use Rattle.vm_tree_laws.proofs.Laws.{reads_keep}
use Rattle.vm_tree_laws.proofs.kept.reads_keep.Goals as goal

pub returns : goal.returns
returns c = reads_keep
