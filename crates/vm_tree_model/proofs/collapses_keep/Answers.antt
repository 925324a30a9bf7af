use Rattle.vm_tree_model.proofs.MergePages.{collapsed_tree, collapsed_map}
use Rattle.vm_tree_model.proofs.collapses_keep.Goals as goal

pub returns-clause-tree : goal.returns-clause-tree
returns-clause-tree c = collapsed_tree

pub returns-clause-map : goal.returns-clause-map
returns-clause-map c = collapsed_map
