-- A layout: how the words of a page read as a node, and what a node weighs. Plain data, and what is asked of it.
use Rattle.std.specs.Prelude.{◌≡◌, ◌⊎◌, ℕ, suc, ◌+◌, ◌-◌, ◌*◌, ◌<◌, ◌≤◌, ◌==◌, nat_le, List, [], ◌∷◌, length, take}
use Rattle.std.specs.Prelude.{drop, slice_index, Bool, true, if◌then◌else◌}
use Rattle.vm_map.specs.Map.{Pairs}
use Rattle.vm_tree_model.specs.Node.{Node, IsNode}

-- Of pages of so many words, with this word 0 on page 0; every key is below `key_end`
pub record Layout : Type 0 where
  pub words : ℕ
  pub magic : ℕ
  pub key_end : ℕ
  -- what any words mean as a node, with the tag 2 for a leaf and 3 for an inner node
  pub node_of : List ℕ → Node
  -- the words that carry no meaning stand as the format has them
  pub is_clean : List ℕ → Bool
  -- two tests of the checker: the words show these fences; they have their form, at this level
  pub has_fences : ℕ → ℕ → List ℕ → Bool
  pub has_form : ℕ → List ℕ → Bool
  -- what a fence and a pair of a key take of a node's room; a further pair takes at most `growth`
  pub fence_size : ℕ → ℕ
  pub pair_size : ℕ → ℕ
  pub room : ℕ
  pub growth : ℕ
  -- two neighbouring leaves may become one that takes at most so much
  pub merge_room : ℕ
  -- a node weighs node_weight, and excess_weight for each unit of its size above `base`
  pub base : ℕ
  pub node_weight : ℕ
  pub excess_weight : ℕ

-- what the pairs take
abbrev pub pairs_size : (ℕ → ℕ) → Pairs → ℕ
pairs_size each [] = 0
pairs_size each (e ∷ es) = each e.0 + pairs_size each es

-- how much of its room the node takes
abbrev pub size : Layout → Node → ℕ
size L n = L.fence_size n.low + L.fence_size n.high + pairs_size L.pair_size n.pairs

-- how many pairs stay at a split, where the first ones have got so much of the whole: the least number that have at least half
abbrev pub cut_from : (ℕ → ℕ) → ℕ → ℕ → Pairs → ℕ
cut_from each got whole [] = 0
cut_from each got whole (e ∷ es) = if nat_le whole (2 * got) then 0 else suc (cut_from each (got + each e.0) whole es)

abbrev pub cut : Layout → Pairs → ℕ
cut L pairs = cut_from L.pair_size 0 (pairs_size L.pair_size pairs) pairs

-- the node has no room for any further pair
abbrev pub IsFullNode : Layout → Node → Type 0
IsFullNode L n = L.room < size L n + L.growth

-- what the node weighs
abbrev pub weight : Layout → Node → ℕ
weight L n = L.node_weight + L.excess_weight * (size L n - L.base)

-- the halves of a node at a separator
abbrev pub left_part : Layout → Node → ℕ → Node
left_part L n separator = record n { high = separator; pairs = take (cut L n.pairs) n.pairs }

abbrev pub right_part : Layout → Node → ℕ → Node
right_part L n separator = record n { low = separator; pairs = drop (cut L n.pairs) n.pairs }

-- the words stand in their form
abbrev pub IsClean : Layout → List ℕ → Type 0
IsClean L words = L.is_clean words ≡ true

-- Both halves of a full node have pairs and fit, and its weight pays for both, for the separator in the parent, or for a new root
pub record PaysForSplit (L : Layout) (n : Node) (separator : ℕ) : Type 0 where
  pub left_some : 1 ≤ cut L n.pairs
  pub right_some : cut L n.pairs < length n.pairs
  pub left_fits : size L (left_part L n separator) ≤ L.room
  pub right_fits : size L (right_part L n separator) ≤ L.room
  pub below : weight L (left_part L n separator) + weight L (right_part L n separator) + L.excess_weight * L.growth ≤ weight L n
  pub above : weight L (left_part L n separator) + weight L (right_part L n separator) + L.node_weight ≤ weight L n

-- What is asked of a layout
pub record IsLayout (L : Layout) : Type 0 where
  pub some_words : 3 ≤ L.words
  pub some_magic : 1 ≤ L.magic
  pub some_keys : 1 ≤ L.key_end
  -- a page of zeros is no node, nor is page 0
  pub free_tag : (w : List ℕ) → ((i : ℕ) → slice_index w i ≡ 0) → (L.node_of w).tag ≡ 0
  pub meta_tag : (w : List ℕ) → slice_index w 0 ≡ L.magic → IsNode (L.node_of w) → ⊥
  -- words in their form
  pub clean_length : (w : List ℕ) → IsClean L w → length w ≡ L.words
  pub clean_high : (w : List ℕ) → IsClean L w → (L.node_of w).high ≤ L.key_end
  pub clean_fits : (w : List ℕ) → IsClean L w → size L (L.node_of w) ≤ L.room
  -- words with the level's tag pass both tests where they are in their form, with this level and these fences, and
  -- have a pair above level 0
  pub passes : (w : List ℕ) (level low high : ℕ) → (L.node_of w).tag ≡ (if level == 0 then 2 else 3) → IsClean L w
      → (L.node_of w).level ≡ level → (L.node_of w).low ≡ low → (L.node_of w).high ≡ high
      → (level ≡ 0) ⊎ (1 ≤ length (L.node_of w).pairs) → (L.has_fences low high w ≡ true) × (L.has_form level w ≡ true)
  pub passed : (w : List ℕ) (level low high : ℕ) → high ≤ L.key_end
      → (L.node_of w).tag ≡ (if level == 0 then 2 else 3) → L.has_fences low high w ≡ true → L.has_form level w ≡ true
      → IsClean L w × ((L.node_of w).level ≡ level) × ((L.node_of w).low ≡ low) × ((L.node_of w).high ≡ high)
  -- sizes and weights
  pub grows : (key : ℕ) → L.pair_size key ≤ L.growth
  pub new_root : (separator : ℕ) → L.fence_size 0 + L.fence_size L.key_end + (L.pair_size 0 + L.pair_size separator) ≤ L.base
  pub joins : L.excess_weight * (L.merge_room - L.base) ≤ L.node_weight
  pub splits : (n : Node) (separator : ℕ) → size L n ≤ L.room → IsFullNode L n → PaysForSplit L n separator
