-- Pages before and after two neighbouring leaves became one.
use Rattle.std.specs.Prelude.{◌≡◌, ◌≢◌, ℕ, ◌≤◌, List, [], ◌∷◌, ◌++◌, length, slice_index, Some}
use Rattle.vm_map.specs.Map.{lookup_at, next_key}
use Rattle.vm_tree_model.specs.Edits.{TakesPair}
use Rattle.vm_tree_model.specs.Layout.{Layout}
use Rattle.vm_tree_model.specs.Page.{pairs_of, node_of, IsClean, IsFree, IsMeta}
use Rattle.vm_tree_model.specs.Tree.{page_at, node_at}

-- new is the left leaf with the right one's pairs behind its own, and the right one's high fence
pub record IsJoined (L : Layout) (left right new : List ℕ) : Type 0 where
  pub node : node_of L new ≡ record (node_of L left) { high = (node_of L right).high; pairs = pairs_of L left ++ pairs_of L right }
  pub clean : IsClean L left → IsClean L right → IsClean L new

-- Inner node q names leaf p at k, and leaf r at the next key s. Leaf p takes over what r has, r is free, and q names it no more
pub record IsMergeOf (L : Layout) (old new : List (List ℕ)) (q k p s r : ℕ) : Type 0 where
  pub same_count : length new ≡ length old
  pub zero : page_at new 0 ≡ page_at old 0
  pub inner : (node_at L old q).tag ≡ 3
  pub names : lookup_at (node_at L old q).pairs k ≡ Some p
  pub names_right : lookup_at (node_at L old q).pairs s ≡ Some r
  pub next : next_key (node_at L old q).pairs (node_at L old q).high k ≡ s
  pub left_leaf : (node_at L old p).tag ≡ 2
  pub right_leaf : (node_at L old r).tag ≡ 2
  pub parent : TakesPair L (page_at old q) (page_at new q) s
  pub left : IsJoined L (page_at old p) (page_at old r) (page_at new p)
  pub right : IsFree L (page_at new r)
  pub others : (x : ℕ) → x ≢ q → x ≢ p → x ≢ r → page_at new x ≡ page_at old x

-- The root q names leaf p, and leaf r at s, and no more. Leaf p takes over what r has and is the root, and q and r are free
pub record IsCollapseOf (L : Layout) (old new : List (List ℕ)) (q k p s r : ℕ) : Type 0 where
  pub same_count : length new ≡ length old
  pub root : slice_index (page_at old 0) 1 ≡ q
  pub meta : IsMeta L (length new) (page_at new 0)
  pub new_root : slice_index (page_at new 0) 1 ≡ p
  pub new_height : slice_index (page_at new 0) 2 ≡ 0
  pub inner : (node_at L old q).tag ≡ 3
  pub pairs : (node_at L old q).pairs ≡ (k, p) ∷ (s, r) ∷ []
  pub left_leaf : (node_at L old p).tag ≡ 2
  pub right_leaf : (node_at L old r).tag ≡ 2
  pub left : IsJoined L (page_at old p) (page_at old r) (page_at new p)
  pub right : IsFree L (page_at new r)
  pub gone : IsFree L (page_at new q)
  pub others : (x : ℕ) → 1 ≤ x → x ≢ q → x ≢ p → x ≢ r → page_at new x ≡ page_at old x
