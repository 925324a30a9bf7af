-- A leaf stays a leaf by an edit of its pairs, and its halves are leaves.
use Rattle.std.proofs.Common.{◌≡◌, ℕ, ◌<◌, List, length, sym, ap, subst}
use Rattle.vm_map.specs.Map.{Pairs, put_pair, del_pair, Rises}
use Rattle.vm_map.proofs.MapLemmas.{Rises-put, Rises-del}
use Rattle.vm_tree_model.specs.Layout.{Layout, IsClean, cut}
use Rattle.vm_tree_model.specs.Node.{Node, Covers, IsLeafNode}
use Rattle.vm_tree_model.specs.Page.{pairs_of, node_of, IsLeaf}
use Rattle.vm_tree_model.specs.Edits.{AddsPair, IsLeafWith, IsSplit, TakesPair}
use Rattle.vm_node.proofs.CutPairs.{left_rises, right_rises}

module _ (L : Layout) where
  leaf_is : (words : List ℕ) (node : Node) → IsClean L words → node_of L words ≡ node → IsLeafNode node → IsLeaf L words
  leaf_is words node clean is leaf = record { clean = clean; node = subst IsLeafNode (sym is) leaf }

  leaf_with : (old new : List ℕ) (holds : Pairs) → IsLeaf L old → IsClean L new
      → node_of L new ≡ record (node_of L old) { pairs = holds } → Rises (node_of L old).low (node_of L old).high
      holds → IsLeafWith L old new holds
  leaf_with old new holds leaf clean is rises = record {
    leaf = leaf_is new _ clean is (record { tag = leaf.node.tag; level = leaf.node.level; rises = rises });
    low = ap (λ (n : Node). n.low) is;
    high = ap (λ (n : Node). n.high) is;
    pairs = ap (λ (n : Node). n.pairs) is;
  }

  pub adds_leaf : (old new : List ℕ) (key value : ℕ) → AddsPair L old new key value → IsLeaf L old
      → Covers (node_of L old) key → IsLeafWith L old new (put_pair (pairs_of L old) key value)
  adds_leaf old new key value adds leaf covers = leaf_with old new _ leaf (adds.clean leaf.clean) adds.node
      (Rises-put _ _ _ key value leaf.node.rises covers.0 covers.1)

  pub takes_leaf : (old new : List ℕ) (key : ℕ) → TakesPair L old new key → IsLeaf L old
      → IsLeafWith L old new (del_pair (pairs_of L old) key)
  takes_leaf old new key takes leaf = leaf_with old new _ leaf (takes.clean leaf.clean) takes.node (Rises-del _ _ _ key leaf.node.rises)

  module _ (old new right : List ℕ) (separator : ℕ) (split : IsSplit L old new right separator)
      (some : cut L (pairs_of L old) < length (pairs_of L old)) (leaf : IsLeaf L old) where
    pub left_leaf : IsLeaf L new
    left_leaf = leaf_is new _ (split.left_clean leaf.clean) split.left_is (record {
      tag = leaf.node.tag;
      level = leaf.node.level;
      rises = left_rises (pairs_of L old) _ _ separator (cut L (pairs_of L old)) leaf.node.rises some split.separates;
    })

    pub right_leaf : IsLeaf L right
    right_leaf = leaf_is right _ (split.right_clean leaf.clean) split.right_is (record {
      tag = leaf.node.tag;
      level = leaf.node.level;
      rises = right_rises (pairs_of L old) _ _ separator (cut L (pairs_of L old)) leaf.node.rises some split.separates;
    })
