use Rattle.vm_tree_laws.proofs.Laws.{releases_keep}
use Rattle.vm_tree_laws.proofs.kept.releases_keep.Goals as goal

pub returns : goal.returns
returns c = releases_keep
