use Rattle.vm_tree_model.proofs.MergePages.{merged_tree, merged_map}
use Rattle.vm_tree_model.proofs.merges_keep.Goals as goal

pub returns-clause-tree : goal.returns-clause-tree
returns-clause-tree c = merged_tree

pub returns-clause-map : goal.returns-clause-map
returns-clause-map c = merged_map
