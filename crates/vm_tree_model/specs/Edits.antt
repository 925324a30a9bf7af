-- What an edit of one node does to its pairs and fences: a pair is added or taken out, a leaf gets other pairs, a
-- node is split, a root grows.
use Rattle.std.specs.Prelude.{◌≡◌, ℕ, ◌+◌, ◌<◌, List, [], ◌∷◌, slice_index_or, Option, None}
use Rattle.std.specs.Option.{option_map}
use Rattle.vm_map.specs.Map.{Pairs, lookup_at, put_pair, del_pair, Rises, floor_pair}
use Rattle.vm_tree_model.specs.Layout.{Layout, IsClean, size, cut, left_part, right_part}
use Rattle.vm_tree_model.specs.Page.{pairs_of, node_of, IsLeaf}

-- the node has no room for a pair of the key, and not the key
pub record IsFullFor (L : Layout) (words : List ℕ) (key : ℕ) : Type 0 where
  pub count : L.room < size L (node_of L words) + L.pair_size key
  pub absent : lookup_at (pairs_of L words) key ≡ None

-- new is old with a pair of the key, over the one that it had or at its place
pub record AddsPair (L : Layout) (old new : List ℕ) (key value : ℕ) : Type 0 where
  pub not_full : ¬ (IsFullFor L old key)
  pub node : node_of L new ≡ record (node_of L old) { pairs = put_pair (pairs_of L old) key value }
  pub clean : IsClean L old → IsClean L new

-- new is old without the first pair of the key, if it has one
pub record TakesPair (L : Layout) (old new : List ℕ) (key : ℕ) : Type 0 where
  pub node : node_of L new ≡ record (node_of L old) { pairs = del_pair (pairs_of L old) key }
  pub clean : IsClean L old → IsClean L new

-- there was no place for the key, and nothing changed
pub record IsRefused (L : Layout) (old new : List ℕ) (key : ℕ) : Type 0 where
  pub same : new ≡ old
  pub count : L.room < size L (node_of L old) + L.pair_size key
  pub absent : (low high : ℕ) → Rises low high (pairs_of L old) → lookup_at (pairs_of L old) key ≡ None

-- new is a leaf with old's fences and these pairs
pub record IsLeafWith (L : Layout) (old new : List ℕ) (holds : Pairs) : Type 0 where
  pub leaf : IsLeaf L new
  pub low : (node_of L new).low ≡ (node_of L old).low
  pub high : (node_of L new).high ≡ (node_of L old).high
  pub pairs : pairs_of L new ≡ holds

-- a put gave the old value, was not refused, and left the leaf with the pair
pub record PutsInLeaf (L : Layout) (old new : List ℕ) (key value : ℕ) (was : Option ℕ) : Type 0 where
  pub was_there : was ≡ lookup_at (pairs_of L old) key
  pub not_full : ¬ (IsFullFor L old key)
  pub after : IsLeafWith L old new (put_pair (pairs_of L old) key value)

-- the lower half stays in the node, the upper half is the right sibling's, and the separator is its first key
pub record IsSplit (L : Layout) (old new right : List ℕ) (separator : ℕ) : Type 0 where
  pub separates : (slice_index_or (pairs_of L old) (cut L (pairs_of L old)) (0, 0)).0 ≡ separator
  pub left_is : node_of L new ≡ left_part L (node_of L old) separator
  pub right_is : node_of L right ≡ right_part L (node_of L old) separator
  pub left_clean : IsClean L old → IsClean L new
  pub right_clean : IsClean L old → IsClean L right

-- a root over two children, of which the right one begins at the separator
pub record IsNewRoot (L : Layout) (words : List ℕ) (level left separator right : ℕ) : Type 0 where
  pub node : node_of L words ≡ record { tag = 3; level = level; low = 0; high = L.key_end; pairs = (0, left) ∷ (separator, right) ∷ [] }
  pub clean : IsClean L words

-- the page of the child whose range has the key
abbrev pub child_of : Layout → List ℕ → ℕ → Option ℕ
child_of L words key = option_map (λ (x : ℕ × ℕ). x.1) (floor_pair (pairs_of L words) key)
