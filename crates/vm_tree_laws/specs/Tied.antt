-- What a validated page tells of a page that it names.
use Rattle.std.specs.Prelude.{◌≡◌, ℕ, ◌+◌, ◌<◌, ◌≤◌, ◌⊎◌, List, length, slice_index, Some}
use Rattle.vm_tree_model.specs.Layout.{Layout}
use Rattle.vm_map.specs.Map.{lookup_at, next_key}
use Rattle.vm_tree_model.specs.Page.{node_of, IsFree, IsLeaf, IsInner, IsMeta}
use Rattle.vm_owner.specs.Kept.{Start}

-- the page is a leaf or an inner node of this level, with these fences
pub record IsNodeAs (L : Layout) (words : List ℕ) (level low high : ℕ) : Type 0 where
  pub kind : IsLeaf L words ⊎ IsInner L words
  pub level_is : (node_of L words).level ≡ level
  pub low_is : (node_of L words).low ≡ low
  pub high_is : (node_of L words).high ≡ high

-- these can be the words of page r in an image of so many pages
pub record IsSound (L : Layout) (pages r : ℕ) (words : List ℕ) : Type 0 where
  pub meta : r ≡ 0 → IsMeta L pages words
  -- the tree is lower than its pages are many
  pub height : r ≡ 0 → slice_index words 2 + 2 ≤ pages
  pub kind : 1 ≤ r → IsFree L words ⊎ IsLeaf L words ⊎ IsInner L words
  pub children : 1 ≤ r → (k c : ℕ) → (node_of L words).tag ≡ 3 → lookup_at (node_of L words).pairs k ≡ Some c → (1 ≤ c) × (c < pages)

-- page r had these words; if they name page p, then p's words have the form that this asks of them
pub record IsTied (L : Layout) (pages r : ℕ) (words : List ℕ) (p : ℕ) (named : List ℕ) : Type 0 where
  pub sound : IsSound L pages r words
  pub root : r ≡ 0 → slice_index words 1 ≡ p → IsNodeAs L named (slice_index words 2) 0 L.key_end
  pub child : 1 ≤ r → (node_of L words).tag ≡ 3 → (k level : ℕ) → lookup_at (node_of L words).pairs k ≡ Some p
      → level + 1 ≡ (node_of L words).level
      → IsNodeAs L named level k (next_key (node_of L words).pairs (node_of L words).high k)

-- what an owner's tie says of the tree, of as many pages as at the start
abbrev pub Tied : Layout → Start → ℕ → List ℕ → ℕ → List ℕ → Type 0
Tied L start = IsTied L (length start.pages)
