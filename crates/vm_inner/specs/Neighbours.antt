-- Two children of an inner node, one behind the other, of which one is the child of a key.
use Rattle.std.specs.Prelude.{◌≡◌, ◌⊎◌, ℕ, ◌≤◌, List, [], ◌∷◌, length, None, Some}
use Rattle.vm_map.specs.Map.{lookup_at, next_key}
use Rattle.vm_tree_model.specs.Layout.{Layout}
use Rattle.vm_tree_model.specs.Page.{pairs_of}
use Rattle.vm_tree_model.specs.Edits.{child_of}

-- the left page stands at the key `low`, and the right one at the next key: the child of the key is the left one, or
-- it is the right one, behind which there is none
pub record AreBeside (L : Layout) (words : List ℕ) (key low left separator right : ℕ) : Type 0 where
  pub names : lookup_at (pairs_of L words) low ≡ Some left
  pub names_right : lookup_at (pairs_of L words) separator ≡ Some right
  pub next : (high : ℕ) → next_key (pairs_of L words) high low ≡ separator
  pub among : (child_of L words key ≡ Some left)
      ⊎ ((child_of L words key ≡ Some right) × ((high : ℕ) → next_key (pairs_of L words) high separator ≡ high))
  -- where there are no more, they are all
  pub all : length (pairs_of L words) ≡ 2 → pairs_of L words ≡ (low, left) ∷ (separator, right) ∷ []

-- the node has one child at most, or none for the key
abbrev pub HasNoPair : Layout → List ℕ → ℕ → Type 0
HasNoPair L words key = (length (pairs_of L words) ≤ 1) ⊎ (child_of L words key ≡ None)
