-- Where a key stands, or belongs, among the pairs of a node.
use Rattle.std.specs.Prelude.{◌≡◌, ℕ, suc, ◌+◌, ◌<◌, ◌≤◌, [], ◌∷◌, length, if◌then◌else◌, nat_lt, ◌==◌, MatchOption, Option, slice_index_or}
use Rattle.vm_map.specs.Map.{Pairs}

-- how many pairs, from the first on, have a lower key
abbrev pub place_of : Pairs → ℕ → ℕ
place_of [] k = 0
place_of (e ∷ es) k = if nat_lt e.0 k then suc (place_of es k) else 0

-- the place of the first pair that has the key, and the number of pairs where none has it
abbrev pub index_at : Pairs → ℕ → ℕ
index_at [] k = 0
index_at (e ∷ es) k = if e.0 == k then 0 else suc (index_at es k)

-- a pair has the key, and the first one stands at this place
pub record IsIndexOf (pairs : Pairs) (key at : ℕ) : Type 0 where
  pub place : at ≡ index_at pairs key
  pub there : at < length pairs

-- the pair before the place has a lower key, and the one at the place has none
pub record IsBound (pairs : Pairs) (key at : ℕ) : Type 0 where
  pub inside : at ≤ length pairs
  pub before : (i : ℕ) → i + 1 ≡ at → (slice_index_or pairs i (0, 0)).0 < key
  pub here : at < length pairs → key ≤ (slice_index_or pairs at (0, 0)).0

-- the pair before the place has this key, and the one at the place, where there is one, has the next
pub record HasSides (pairs : Pairs) (at low : ℕ) (next : Option ℕ) : Type 0 where
  pub before : (i : ℕ) → i + 1 ≡ at → (slice_index_or pairs i (0, 0)).0 ≡ low
  pub here : MatchOption next (at ≡ length pairs) (λ k. (at < length pairs) × ((slice_index_or pairs at (0, 0)).0 ≡ k))

-- the pair at the place has the key
pub record HasKeyAt (pairs : Pairs) (key at : ℕ) : Type 0 where
  pub there : at < length pairs
  pub has : (slice_index_or pairs at (0, 0)).0 ≡ key
