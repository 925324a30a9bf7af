-- Whether a page has room for a pair of a key, by the words that tell how much of its room is left.
use Rattle.std.specs.Prelude.{◌≡◌, ◌<◌, List, None, ℕ}
use Rattle.vm_map.specs.Map.{lookup_at, Rises}
use Rattle.vm_tree_model.specs.{Layout.Layout, Page.pairs_of}

-- less is left than the pair takes, and the key is not there where the keys rise
pub record IsTightFor (L : Layout) (spare : List ℕ → ℕ) (words : List ℕ) (key : ℕ) : Type 0 where
  pub room : spare words < L.pair_size key
  pub absent : (low high : ℕ) → Rises low high (pairs_of L words) → lookup_at (pairs_of L words) key ≡ None

-- the key is there, or as much is left as the pair takes
abbrev pub HasRoomFor : Layout → (List ℕ → ℕ) → List ℕ → ℕ → Type 0
HasRoomFor L spare words key = ¬ ((spare words < L.pair_size key) × (lookup_at (pairs_of L words) key ≡ None))
