-- When pages of the tree may be released together, and what a leaf that was read whole proves, or leaves that are held together.
use Rattle.std.specs.Prelude.{◌≡◌, ◌≢◌, ℕ, ◌+◌, ◌<◌, ◌≤◌, ◌⊎◌, List, [], ◌∷◌, ◌++◌, length, min, slice_index, slice_set, Some, None}
use Rattle.vm_tree_model.specs.Layout.{Layout, size, IsFullNode}
use Rattle.vm_map.specs.Keys.{KEY_END}
use Rattle.vm_map.specs.Map.{Pairs, Rises, lookup_at, put_pair, del_pair, next_key}
use Rattle.vm_tree_model.specs.Node.{Covers}
use Rattle.vm_tree_model.specs.Page.{pairs_of, node_of, IsFree}
use Rattle.vm_tree_model.specs.Merges.{IsJoined}
use Rattle.vm_tree_model.specs.Edits.{IsLeafWith, AddsPair, IsSplit, IsNewRoot, TakesPair}
use Rattle.vm_owner.specs.declared.Entry.{Entry}
use Rattle.vm_owner.specs.Kept.{Start, Change}
use Rattle.vm_map.specs.declared.call.Said.{Said}
use Rattle.vm_map.specs.declared.call.Call.{Call}
use Rattle.vm_map.specs.declared.call.Call.TheVariants.{Get, Put, Del, Window, Swap, Range}
use Rattle.vm_map.specs.declared.call.Reply.{Reply}
use Rattle.vm_map.specs.declared.call.Reply.TheVariants.{Got, Was, Gone, Win, Swapped, Many, Wide}
use Rattle.vm_map.specs.declared.call.Swap.TheVariants as swaps
use Rattle.vm_map.specs.History.{between, bound_of}
use Rattle.vm_map.specs.Windows.{IsWindow}
use Rattle.vm_map.specs.declared.window.TheConstants.{MOST_PAIRS}

-- the one entry of a call with its reply
abbrev pub entry : ℕ → ℕ → Call → Reply → List (Entry Said)
entry n c call reply = record { number = n; count = c; said = record { call = call; reply = reply } } ∷ []

-- the reply is right for the leaf's old words, and its new words are those after the call
abbrev pub IsEdit : Layout → List ℕ → List ℕ → Call → Reply → Type 0
IsEdit L old new (Put k v) (Was was) = Covers (node_of L old) k × (was ≡ lookup_at (pairs_of L old) k)
    × IsLeafWith L old new (put_pair (pairs_of L old) k v)
IsEdit L old new (Del k) (Gone was) = Covers (node_of L old) k × (was ≡ lookup_at (pairs_of L old) k)
    × IsLeafWith L old new (del_pair (pairs_of L old) k)
IsEdit L old new (Swap k want v) (Swapped swaps.Done) = Covers (node_of L old) k
    × (lookup_at (pairs_of L old) k ≡ Some want) × IsLeafWith L old new (put_pair (pairs_of L old) k v)
IsEdit L _ _ _ _ = ⊥

-- a full node below the root is split: its parent has room and names it, and its right sibling's page is free
pub record MaySplit (L : Layout) (parent node sibling : Change) : Type 0 where
  -- the key of the node's pair in the parent
  pub key : ℕ
  -- the first key of the sibling
  pub separator : ℕ
  pub inner : (node_of L parent.old).tag ≡ 3
  pub room : size L (node_of L parent.old) + L.growth ≤ L.room
  pub names : lookup_at (pairs_of L parent.old) key ≡ Some node.page
  pub full : IsFullNode L (node_of L node.old)
  pub split : IsSplit L node.old node.new sibling.new separator
  pub adds : AddsPair L parent.old parent.new separator sibling.page
  -- the sibling's page was free
  pub free : IsFree L sibling.old

-- the full root is split: page 0 names a new root over both halves, and the pages of the sibling and of the new root are free
pub record MaySplitRoot (L : Layout) (meta root sibling top : Change) : Type 0 where
  pub separator : ℕ
  pub page_zero : meta.page ≡ 0
  pub root_page : slice_index meta.old 1 ≡ root.page
  pub full : IsFullNode L (node_of L root.old)
  pub split : IsSplit L root.old root.new sibling.new separator
  pub grows : IsNewRoot L top.new (slice_index meta.old 2 + 1) root.page separator sibling.page
  pub meta_new : meta.new ≡ slice_set (slice_set meta.old 1 top.page) 2 (slice_index meta.old 2 + 1)
  pub free : IsFree L sibling.old
  pub free_top : IsFree L top.old

-- A key is removed from leaf left or right, and both become one: left takes over what right has, the parent names
-- right no more, and right's page is free.
-- `left_mid` and `right_mid` are the two leaves without the key
pub record MayMerge (L : Layout) (parent left right : Change) (said : Said) : Type 0 where
  pub key : ℕ
  pub value : ℕ
  pub said_is : said ≡ record { call = Del key; reply = Gone (Some value) }
  -- the keys of both in the parent
  pub low : ℕ
  pub separator : ℕ
  pub inner : (node_of L parent.old).tag ≡ 3
  pub names : lookup_at (pairs_of L parent.old) low ≡ Some left.page
  pub names_right : lookup_at (pairs_of L parent.old) separator ≡ Some right.page
  pub next : next_key (pairs_of L parent.old) (node_of L parent.old).high low ≡ separator
  pub left_leaf : (node_of L left.old).tag ≡ 2
  pub right_leaf : (node_of L right.old).tag ≡ 2
  pub left_mid : List ℕ
  pub right_mid : List ℕ
  pub deletes : (IsEdit L left.old left_mid (Del key) (Gone (Some value)) × (right_mid ≡ right.old))
      ⊎ ((left_mid ≡ left.old) × IsEdit L right.old right_mid (Del key) (Gone (Some value)))
  pub few : size L (node_of L left.new) ≤ L.merge_room
  pub takes : TakesPair L parent.old parent.new separator
  pub joined : IsJoined L left_mid right_mid left.new
  pub zeroed : IsFree L right.new

-- The same of the last two leaves under the root: page 0 names left as the root, and the old root's page is free too
pub record MayCollapse (L : Layout) (meta root left right : Change) (said : Said) : Type 0 where
  pub key : ℕ
  pub value : ℕ
  pub said_is : said ≡ record { call = Del key; reply = Gone (Some value) }
  pub low : ℕ
  pub separator : ℕ
  pub page_zero : meta.page ≡ 0
  pub root_page : slice_index meta.old 1 ≡ root.page
  pub inner : (node_of L root.old).tag ≡ 3
  pub pairs : pairs_of L root.old ≡ (low, left.page) ∷ (separator, right.page) ∷ []
  pub left_leaf : (node_of L left.old).tag ≡ 2
  pub right_leaf : (node_of L right.old).tag ≡ 2
  pub left_mid : List ℕ
  pub right_mid : List ℕ
  pub deletes : (IsEdit L left.old left_mid (Del key) (Gone (Some value)) × (right_mid ≡ right.old))
      ⊎ ((left_mid ≡ left.old) × IsEdit L right.old right_mid (Del key) (Gone (Some value)))
  pub few : size L (node_of L left.new) ≤ L.merge_room
  pub meta_new : meta.new ≡ slice_set (slice_set meta.old 1 left.page) 2 0
  pub joined : IsJoined L left_mid right_mid left.new
  pub zeroed : IsFree L right.new
  pub gone : IsFree L root.new

-- which pages may be released together, in this order, and with which entries; nothing is asked of `due`, the pages
-- that are owed to the pass
abbrev pub MayRelease : Layout → Start → List ℕ → List Change → List (Entry Said) → Type 0
MayRelease L start due (leaf ∷ []) (e ∷ []) = ((node_of L leaf.old).tag ≡ 2) × IsEdit L leaf.old leaf.new e.said.call e.said.reply
MayRelease L start due (parent ∷ node ∷ sibling ∷ []) [] = MaySplit L parent node sibling
MayRelease L start due (parent ∷ left ∷ right ∷ []) (e ∷ []) = MayMerge L parent left right e.said
MayRelease L start due (meta ∷ root ∷ sibling ∷ top ∷ []) [] = MaySplitRoot L meta root sibling top
MayRelease L start due (meta ∷ root ∷ left ∷ right ∷ []) (e ∷ []) = MayCollapse L meta root left right e.said
MayRelease L _ _ _ _ = ⊥

-- the leaf's words prove that the call has this reply and changes nothing; a window is the leaf's own, of at most 28 pairs
abbrev pub IsProved : Layout → List ℕ → Call → Reply → Type 0
IsProved L leaf (Get k) (Got found) = Covers (node_of L leaf) k × (found ≡ lookup_at (pairs_of L leaf) k)
IsProved L leaf (Del k) (Gone was) = Covers (node_of L leaf) k × (was ≡ None) × (lookup_at (pairs_of L leaf) k ≡ None)
IsProved L leaf (Window start most) (Win window) = Covers (node_of L leaf) start × (1 ≤ most)
    × IsWindow (pairs_of L leaf) (node_of L leaf).high start (min most MOST_PAIRS) window
IsProved L leaf (Swap k want v) (Swapped (swaps.Kept there)) =
    Covers (node_of L leaf) k × (lookup_at (pairs_of L leaf) k ≡ Some there) × (there ≢ want)
IsProved L leaf (Swap k want v) (Swapped swaps.Missing) = Covers (node_of L leaf) k × (lookup_at (pairs_of L leaf) k ≡ None)
IsProved L _ _ _ = ⊥

-- the words of a page, read whole at one moment, prove the entry, as a leaf's do whose keys rise
abbrev pub MayRead : Layout → Start → ℕ → List ℕ → List (Entry Said) → Type 0
MayRead L start page words [] = Unit {0}
MayRead L start page words (e ∷ es) = ((node_of L words).tag ≡ 2)
    × ((low high : ℕ) → Rises low high (pairs_of L words) → IsProved L words e.said.call e.said.reply)

-- ---- several leaves

-- as many leaves are held together at most
abbrev pub MOST_LEAVES : ℕ
MOST_LEAVES = 16

-- pages that are leaves, one after another: the first covers the key `from`, each further one the high fence of the
-- one before, and the last one's
-- high fence is `upto`
abbrev pub AreLeavesFrom : Layout → List (ℕ × List ℕ) → ℕ → ℕ → Type 0
AreLeavesFrom L [] from upto = upto ≡ from
AreLeavesFrom L (q ∷ qs) from upto = ((node_of L q.1).tag ≡ 2) × Covers (node_of L q.1) from × AreLeavesFrom L qs (node_of L q.1).high upto

-- their pairs from a key on and below another, leaf by leaf
abbrev pub pairs_held : Layout → List (ℕ × List ℕ) → ℕ → ℕ → Pairs
pairs_held L [] from upto = []
pairs_held L (q ∷ qs) from upto = between (pairs_of L q.1) from (min (node_of L q.1).high upto) ++ pairs_held L qs (node_of L q.1).high upto

-- leaves that are held together prove the reply to a range: they cover it, and the reply has their pairs of it; or
-- they are as many as can be held,
-- and what they cover ends at a key below its bound
abbrev pub IsProvedByAll : Layout → List (ℕ × List ℕ) → Call → Reply → Type 0
IsProvedByAll L leaves (Range low bound) (Many span) = (reach : ℕ) × AreLeavesFrom L leaves low reach
    × (bound_of bound ≤ reach) × (span.0 ≡ pairs_held L leaves low (bound_of bound))
IsProvedByAll L leaves (Range low bound) (Wide reach) =
    AreLeavesFrom L leaves low reach × (length leaves ≡ MOST_LEAVES) × (reach < bound_of bound) × (reach < KEY_END)
IsProvedByAll L _ _ _ = ⊥

-- pages held together, with their words, prove the entry
abbrev pub MayHold : Layout → Start → List (ℕ × List ℕ) → List (Entry Said) → Type 0
MayHold L start leaves [] = Unit {0}
MayHold L start leaves (e ∷ es) = IsProvedByAll L leaves e.said.call e.said.reply
