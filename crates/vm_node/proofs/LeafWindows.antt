-- The first pairs of a leaf from a start that it covers are all that it has up to the bound.
use Rattle.std.proofs.Common.{ℕ, ◌≤◌, List, min, arith}
use Rattle.vm_map.specs.Windows.{IsWindow}
use Rattle.vm_map.specs.declared.window.Window.{Window}
use Rattle.vm_map.proofs.WindowLaws.{window_replies}
use Rattle.vm_tree_model.specs.Layout.{Layout}
use Rattle.vm_tree_model.specs.Node.{Covers}
use Rattle.vm_tree_model.specs.Page.{pairs_of, node_of, IsLeaf}
use Rattle.vm_node.specs.Shows.{IsLeafWindow}

pub leaf_window : (L : Layout) (words : List ℕ) (start most : ℕ) (window : Window)
    → IsWindow (pairs_of L words) (node_of L words).high start (min most 28) window → IsLeaf L words
    → Covers (node_of L words) start → 1 ≤ most
    → IsLeafWindow L words start most window
leaf_window L words start most window is leaf covers some =
    let says = window_replies (pairs_of L words) _ (node_of L words).high start (min most 28) window leaf.node.rises
    covers.1 (omega (arith, some)) is in
    record { past = says.0; within = says.1; shows = says.2; few = omega (arith, says.3) }
