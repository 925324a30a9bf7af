-- The node that two neighbours make.
use Rattle.std.specs.Prelude.{◌++◌, List, ℕ}
use Rattle.vm_tree_model.specs.{Layout.Layout, Node.Node}
use Rattle.vm_tree_model.specs.Page.{node_of, pairs_of}

-- the left one with the pairs of both, and the right one's high fence
abbrev pub both_as_one : Layout → List ℕ → List ℕ → Node
both_as_one L left right = record (node_of L left) { high = (node_of L right).high; pairs = pairs_of L left ++ pairs_of L right }
