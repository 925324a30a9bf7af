-- A page as its words, in a layout.
use Rattle.std.specs.Prelude.{◌≡◌, ℕ, ◌<◌, ◌≤◌, List, length, slice_index}
use Rattle.vm_map.specs.Map.{Pairs}
use Rattle.vm_tree_model.specs.Node.{Node, IsLeafNode, IsInnerNode}
use Rattle.vm_tree_model.specs.Layout.{Layout}
pub use Rattle.vm_tree_model.specs.Layout.{IsClean}

-- what the page means as a node
abbrev pub node_of : Layout → List ℕ → Node
node_of L words = L.node_of words

-- the pairs that the page holds
abbrev pub pairs_of : Layout → List ℕ → Pairs
pairs_of L words = (L.node_of words).pairs

-- all words are 0
pub record IsFree (L : Layout) (words : List ℕ) : Type 0 where
  pub length : length words ≡ L.words
  pub zero : (i : ℕ) → slice_index words i ≡ 0

-- a leaf
pub record IsLeaf (L : Layout) (words : List ℕ) : Type 0 where
  pub clean : IsClean L words
  pub node : IsLeafNode (L.node_of words)

-- an inner node
pub record IsInner (L : Layout) (words : List ℕ) : Type 0 where
  pub clean : IsClean L words
  pub node : IsInnerNode (L.node_of words)

-- page 0 of an image of so many pages
pub record IsMeta (L : Layout) (pages : ℕ) (words : List ℕ) : Type 0 where
  pub length : length words ≡ L.words
  pub magic : slice_index words 0 ≡ L.magic
  pub root_low : 1 ≤ slice_index words 1
  pub root_high : slice_index words 1 < pages
  pub rest : (i : ℕ) → 3 ≤ i → slice_index words i ≡ 0
