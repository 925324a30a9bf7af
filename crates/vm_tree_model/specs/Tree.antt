-- What the pages of an image mean together.
use Rattle.std.specs.Prelude.{◌≡◌, ℕ, ◌<◌, ◌≤◌, ◌==◌, List, [], ◌∷◌, ◌++◌, length, drop, slice_index, if◌then◌else◌, ◌⊎◌}
use Rattle.vm_map.specs.Map.{Pairs, gather}
use Rattle.vm_tree_model.specs.Node.{Node, Covers, IsTreeOf}
use Rattle.vm_tree_model.specs.Layout.{Layout}
pub use Rattle.vm_page.specs.Pages.{page_at}
use Rattle.vm_tree_model.specs.Page.{IsFree, IsLeaf, IsInner, IsMeta}

abbrev pub node_at : Layout → List (List ℕ) → ℕ → Node
node_at L pages p = L.node_of (page_at pages p)

-- Page 0 is a meta page, each other one is free, a leaf or an inner node, and they are a tree by names and levels
pub record IsTree (L : Layout) (pages : List (List ℕ)) : Type 0 where
  pub meta : IsMeta L (length pages) (page_at pages 0)
  pub kind : (p : ℕ) → 1 ≤ p → p < length pages → IsFree L (page_at pages p) ⊎ IsLeaf L (page_at pages p) ⊎ IsInner L (page_at pages p)
  pub tree : IsTreeOf L.key_end (node_at L pages) (slice_index (page_at pages 0) 1) (slice_index (page_at pages 0) 2)

-- page p is a leaf
abbrev pub IsLeafAt : Layout → List (List ℕ) → ℕ → Type 0
IsLeafAt L pages p = (1 ≤ p) × (p < length pages) × ((node_at L pages p).tag ≡ 2)

-- each key lies in the fences of exactly one leaf
pub record IsParted (L : Layout) (pages : List (List ℕ)) : Type 0 where
  pub some : (key : ℕ) → key < L.key_end → (p : ℕ) × IsLeafAt L pages p × Covers (node_at L pages p) key
  pub one : (key p q : ℕ) → IsLeafAt L pages p → Covers (node_at L pages p) key → IsLeafAt L pages q
      → Covers (node_at L pages q) key → p ≡ q

-- the page's pairs, if it is a leaf
abbrev pub leaf_part : Layout → List ℕ → Pairs
leaf_part L words = if (L.node_of words).tag == 2 then (L.node_of words).pairs else []

-- the pairs of the leaves among the pages
abbrev pub leaf_pairs : Layout → List (List ℕ) → Pairs
leaf_pairs L [] = []
leaf_pairs L (w ∷ ws) = leaf_part L w ++ leaf_pairs L ws

-- the map that the pages hold: all pairs of all leaves but page 0
abbrev pub map_of : Layout → List (List ℕ) → Pairs
map_of L pages = gather (leaf_pairs L (drop 1 pages))
