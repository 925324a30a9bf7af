-- A node: what a page of a tree means.
use Rattle.std.specs.Prelude.{◌≡◌, ℕ, ◌+◌, ◌<◌, ◌≤◌, Some}
use Rattle.vm_map.specs.Map.{Pairs, lookup_at, Rises, StartsAt, next_key}

-- A page's tag (2 for a leaf, 3 for an inner node), level, fences and pairs. `high` is exclusive, and the end of all
-- keys where there is no high fence
pub record Node : Type 0 where
  pub tag : ℕ
  pub level : ℕ
  pub low : ℕ
  pub high : ℕ
  pub pairs : Pairs

-- the key lies in the node's fences
abbrev pub Covers : Node → ℕ → Type 0
Covers n key = (n.low ≤ key) × (key < n.high)

-- a leaf's pairs are keys with their values
pub record IsLeafNode (n : Node) : Type 0 where
  pub tag : n.tag ≡ 2
  pub level : n.level ≡ 0
  pub rises : Rises n.low n.high n.pairs

-- an inner node's pairs are its children's lowest keys with their pages
pub record IsInnerNode (n : Node) : Type 0 where
  pub tag : n.tag ≡ 3
  pub level : 1 ≤ n.level
  pub rises : Rises n.low n.high n.pairs
  pub starts : StartsAt n.low n.pairs

-- a node of the tree, of either kind
abbrev pub IsNode : Node → Type 0
IsNode n = (2 ≤ n.tag) × (n.tag ≤ 3)

-- inner node q has the pair of the key k and the child c
abbrev pub Names : (ℕ → Node) → ℕ → ℕ → ℕ → Type 0
Names node q k c = ((node q).tag ≡ 3) × (lookup_at (node q).pairs k ≡ Some c)

-- The nodes are a tree with this root and height, by names and levels; all keys are below `end`
pub record IsTreeOf (end : ℕ) (node : ℕ → Node) (root height : ℕ) : Type 0 where
  pub leaf : (p : ℕ) → (node p).tag ≡ 2 → IsLeafNode (node p)
  pub inner : (p : ℕ) → (node p).tag ≡ 3 → IsInnerNode (node p)
  pub root_is : IsNode (node root)
  pub root_level : (node root).level ≡ height
  pub root_low : (node root).low ≡ 0
  pub root_high : (node root).high ≡ end
  pub child_is : (q k c : ℕ) → Names node q k c → IsNode (node c)
  pub child_level : (q k c : ℕ) → Names node q k c → (node c).level + 1 ≡ (node q).level
  pub child_low : (q k c : ℕ) → Names node q k c → (node c).low ≡ k
  pub child_high : (q k c : ℕ) → Names node q k c → (node c).high ≡ next_key (node q).pairs (node q).high k
  pub once : (q q' k k' c : ℕ) → Names node q k c → Names node q' k' c → q ≡ q'
  pub unnamed : (q k : ℕ) → ¬ (Names node q k root)
  pub named : (c : ℕ) → IsNode (node c) → (c ≡ root → ⊥) → (q : ℕ) × (k : ℕ) × Names node q k c

-- each key lies in the fences of exactly one node of the level
pub record IsPartedAt (end : ℕ) (node : ℕ → Node) (level : ℕ) : Type 0 where
  pub some : (key : ℕ) → key < end → (p : ℕ) × IsNode (node p) × ((node p).level ≡ level) × Covers (node p) key
  pub one : (key p q : ℕ) → IsNode (node p) → (node p).level ≡ level → Covers (node p) key → IsNode (node q)
      → (node q).level ≡ level → Covers (node q) key → p ≡ q
