-- What the search for a key's child finds in the words of a page, also in words whose keys do not rise.
use Rattle.std.specs.Prelude.{◌≡◌, ℕ, ◌+◌, ◌<◌, ◌≤◌, List, length, MatchOption, Option, slice_index_or, Some, None, unwrap_or}
use Rattle.vm_map.specs.Map.{lookup_at, next_key, Rises}
use Rattle.vm_tree_model.specs.Layout.{Layout}
use Rattle.vm_tree_model.specs.Page.{pairs_of}
use Rattle.vm_tree_model.specs.Edits.{child_of}

-- a pair whose key is not above this one has this page as its value; where the keys rise it is the child whose range has the key
pub record FindsChild (L : Layout) (words : List ℕ) (key found : ℕ) : Type 0 where
  pub at : ℕ
  pub there : at < length (pairs_of L words)
  pub lowest : (slice_index_or (pairs_of L words) at (0, 0)).0 ≤ key
  pub page : (slice_index_or (pairs_of L words) at (0, 0)).1 ≡ found
  pub child : (low high : ℕ) → Rises low high (pairs_of L words) → child_of L words key ≡ Some found

-- The search finds this page, and the keys on both sides: that of its pair, and that of the pair behind, where there
-- is one. Where the keys rise these
-- are the child's fences: the page is found under the first, and the next key above that is the second, or the node's high fence
pub record FindsChildIn (L : Layout) (words : List ℕ) (key found low : ℕ) (next : Option ℕ) : Type 0 where
  pub finds : FindsChild L words key found
  pub low_is : (slice_index_or (pairs_of L words) finds.at (0, 0)).0 ≡ low
  pub next_is : MatchOption next (finds.at + 1 ≡ length (pairs_of L words))
      (λ k. (finds.at + 1 < length (pairs_of L words)) × ((slice_index_or (pairs_of L words) (finds.at + 1) (0, 0)).0 ≡ k))
  pub fences : (from upto : ℕ) → Rises from upto (pairs_of L words) → (lookup_at (pairs_of L words) low ≡ Some found)
      × ((high : ℕ) → next_key (pairs_of L words) high low ≡ unwrap_or next high)

-- there is no pair, or the key of the first one is above; where the keys rise no child has the key in its range
pub record FindsNoChild (L : Layout) (words : List ℕ) (key : ℕ) : Type 0 where
  pub first : 0 < length (pairs_of L words) → key < (slice_index_or (pairs_of L words) 0 (0, 0)).0
  pub child : (low high : ℕ) → Rises low high (pairs_of L words) → child_of L words key ≡ None
