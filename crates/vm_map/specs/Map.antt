-- A finite map is the list of its pairs by rising key: what look-ups and edits of it are.
use Rattle.std.specs.Prelude.{◌≡◌, ℕ, ◌+◌, ◌<◌, ◌≤◌, Bool, false, List, [], ◌∷◌, Option, Some, None, if◌then◌else◌, ◌==◌, nat_lt, unwrap_or}

-- a key, then its value
abbrev pub Pairs : Type 0
Pairs = List (ℕ × ℕ)

-- the value of the first pair that has the key
abbrev pub lookup_at : Pairs → ℕ → Option ℕ
lookup_at [] k = None
lookup_at (e ∷ es) k = if k == e.0 then Some e.1 else lookup_at es k

-- with the value v at k: at its place in the order, or over the pair that has k
abbrev pub put_pair : Pairs → ℕ → ℕ → Pairs
put_pair [] k v = (k, v) ∷ []
put_pair (e ∷ es) k v = if nat_lt k e.0 then (k, v) ∷ e ∷ es else (if k == e.0 then (k, v) ∷ es else e ∷ put_pair es k v)

-- without the first pair that has the key
abbrev pub del_pair : Pairs → ℕ → Pairs
del_pair [] k = []
del_pair (e ∷ es) k = if k == e.0 then es else e ∷ del_pair es k

-- the keys rise, from low on and below high
abbrev pub Rises : ℕ → ℕ → Pairs → Type 0
Rises low high [] = Unit {0}
Rises low high (e ∷ es) = (low ≤ e.0) × (e.0 < high) × Rises (e.0 + 1) high es

-- the first key is low
abbrev pub StartsAt : ℕ → Pairs → Type 0
StartsAt low [] = ⊥
StartsAt low (e ∷ es) = e.0 ≡ low

-- the least key above k, and high where there is none
abbrev pub next_key : Pairs → ℕ → ℕ → ℕ
next_key [] high k = high
next_key (e ∷ es) high k = if nat_lt k e.0 then e.0 else next_key es high k

-- the pair of the greatest key up to k, among rising keys
abbrev pub floor_pair : Pairs → ℕ → Option (ℕ × ℕ)
floor_pair [] k = None
floor_pair (e ∷ es) k = if nat_lt k e.0 then None else Some (unwrap_or (floor_pair es k) e)

-- the map of all the pairs; of two with one key, the first counts
abbrev pub gather : Pairs → Pairs
gather [] = []
gather (e ∷ es) = put_pair (gather es) e.0 e.1

-- it is this value
abbrev pub is_value : Option ℕ → ℕ → Bool
is_value None v = false
is_value (Some w) v = w == v

-- with the value v at k, where the value there is the one that is wanted
abbrev pub swap_pair : Pairs → ℕ → ℕ → ℕ → Pairs
swap_pair m k want v = if is_value (lookup_at m k) want then put_pair m k v else m
