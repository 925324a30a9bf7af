-- An inner node stays an inner node by an edit, and its halves and a new root are inner nodes.
use Rattle.std.proofs.Common.{◌≡◌, ◌≢◌, ℕ, zero, suc, ◌<◌, ◌≤◌, List, [], ◌∷◌, length, take, None, refl, sym, subst, arith}
use Rattle.std.proofs.lemmas.Bool.Decides.{nat_tests}
use Rattle.vm_map.specs.Map.{Pairs, put_pair, StartsAt}
use Rattle.vm_map.proofs.MapLemmas.{Rises-put, Rises-del, floor_some}
use Rattle.vm_tree_model.specs.Layout.{Layout, IsClean, cut}
use Rattle.vm_tree_model.specs.Node.{Node, Covers, IsInnerNode}
use Rattle.vm_tree_model.specs.Page.{pairs_of, node_of, IsInner}
use Rattle.vm_tree_model.specs.Edits.{AddsPair, IsSplit, IsNewRoot, TakesPair, child_of}
use Rattle.vm_tree_model.proofs.DelLemmas.{StartsAt-del}
use Rattle.vm_node.proofs.CutPairs.{left_rises, right_rises, StartsAt-drop}

starts_put : (m : Pairs) (low k v : ℕ) → StartsAt low m → low ≤ k → StartsAt low (put_pair m k v)
starts_put [] low k v s le = absurd s
starts_put (e ∷ es) low k v s le = grind (arith, nat_tests, s, le)

starts_take : (m : Pairs) (low n : ℕ) → StartsAt low m → 1 ≤ n → StartsAt low (take n m)
starts_take [] low n s some = absurd s
starts_take (e ∷ es) low zero s some = absurd (omega (arith, some))
starts_take (e ∷ es) low (suc n) s some = s

module _ (L : Layout) where
  -- clean words that mean an inner node
  inner_with : (words : List ℕ) (node : Node) → IsClean L words → node_of L words ≡ node → IsInnerNode node → IsInner L words
  inner_with words node clean is inner = record { clean = clean; node = subst IsInnerNode (sym is) inner }

  pub adds_inner : (old new : List ℕ) (key page : ℕ) → AddsPair L old new key page → IsInner L old
      → Covers (node_of L old) key → IsInner L new
  adds_inner old new key page adds inner covers = inner_with new _ (adds.clean inner.clean) adds.node (record {
    tag = inner.node.tag;
    level = inner.node.level;
    rises = Rises-put _ _ _ key page inner.node.rises covers.0 covers.1;
    starts = starts_put _ _ key page inner.node.starts covers.0;
  })

  -- a key that goes is not the low fence
  pub takes_inner : (old new : List ℕ) (key : ℕ) → TakesPair L old new key → IsInner L old → (node_of L old).low < key → IsInner L new
  takes_inner old new key takes inner above = inner_with new _ (takes.clean inner.clean) takes.node (record {
    tag = inner.node.tag;
    level = inner.node.level;
    rises = Rises-del _ _ _ key inner.node.rises;
    starts = StartsAt-del _ _ key inner.node.starts above;
  })

  module _ (old new right : List ℕ) (separator : ℕ) (split : IsSplit L old new right separator)
      (first : 1 ≤ cut L (pairs_of L old)) (some : cut L (pairs_of L old) < length (pairs_of L old))
      (inner : IsInner L old) where
    pub left_inner : IsInner L new
    left_inner = inner_with new _ (split.left_clean inner.clean) split.left_is (record {
      tag = inner.node.tag;
      level = inner.node.level;
      rises = left_rises (pairs_of L old) _ _ separator (cut L (pairs_of L old)) inner.node.rises some split.separates;
      starts = starts_take (pairs_of L old) _ _ inner.node.starts first;
    })

    pub right_inner : IsInner L right
    right_inner = inner_with right _ (split.right_clean inner.clean) split.right_is (record {
      tag = inner.node.tag;
      level = inner.node.level;
      rises = right_rises (pairs_of L old) _ _ separator (cut L (pairs_of L old)) inner.node.rises some split.separates;
      starts = StartsAt-drop (pairs_of L old) (cut L (pairs_of L old)) separator some split.separates;
    })

  pub root_inner : (words : List ℕ) (level left separator right : ℕ) → IsNewRoot L words level left separator right
      → 1 ≤ level → 0 < separator → separator < L.key_end → IsInner L words
  root_inner words level left separator right root some above fits = inner_with words _ root.clean root.node (record {
    tag = refl;
    level = some;
    rises = (omega arith, omega (arith, fits), (above, fits, tt));
    starts = refl;
  })

  -- an inner node has a child for each key that it covers
  pub has_child : (words : List ℕ) (key : ℕ) → IsInner L words → Covers (node_of L words) key → child_of L words key ≢ None
  has_child words key inner covers none =
      let found = floor_some (pairs_of L words) _ key inner.node.starts covers.0 in
      absurd (cc)
