-- A level of the tree that is built, on pages of z words: its entries in nodes of 20, or of 180 where z is 512, the
-- last one the rest. The entries of the lowest level are the pairs; those of
-- each further one are the low fences of the nodes below, with their pages.
use Rattle.std.specs.Prelude.{ℕ, zero, suc, ◌+◌, ◌-◌, ◌*◌, ◌/◌, max, List, [], ◌∷◌, ◌++◌, length, take, drop}
use Rattle.std.specs.Prelude.{replicate, slice_index_or, Option, Some, None, unwrap_or, is_none, ◌==◌, nat_lt}
use Rattle.std.specs.Prelude.{if◌then◌else◌}
use Rattle.vm_map.specs.Map.{Pairs}

-- how many entries a node takes when it is built
abbrev pub fill_of : ℕ → ℕ
fill_of z = if z == 64 then 20 else 180

-- how many nodes so many entries fill: at least one
abbrev pub nodes_for : ℕ → ℕ → ℕ
nodes_for z entries = max 1 ((entries + (fill_of z - 1)) / fill_of z)

-- the entries of node n
abbrev pub run_of : ℕ → Pairs → ℕ → Pairs
run_of z entries n = take (fill_of z) (drop (fill_of z * n) entries)

-- the low fence of node n: its first key, but 0 for the first node
abbrev pub low_of : ℕ → Pairs → ℕ → ℕ
low_of z entries zero = 0
low_of z entries (suc n) = (slice_index_or entries (fill_of z * suc n) (0, 0)).0

-- the high fence of node n: the low fence of the node to its right, none for the last node
abbrev pub high_fence_of : ℕ → Pairs → ℕ → Option ℕ
high_fence_of z entries n = if nat_lt (n + 1) (nodes_for z (length entries)) then Some (low_of z entries (n + 1)) else None

-- keys and values, one after another
abbrev pub pair_words : Pairs → List ℕ
pair_words [] = []
pair_words (e ∷ es) = e.0 ∷ e.1 ∷ pair_words es

-- the words of a node
abbrev pub node_words : ℕ → ℕ → ℕ → Option ℕ → Pairs → List ℕ
node_words z level low high pairs =
    (if level == 0 then 2 else 3) ∷ length pairs ∷ low ∷ unwrap_or high 0 ∷ (if is_none high then 1 else 0) ∷ level
    ∷ 0 ∷ 0 ∷ pair_words pairs ++ replicate (z - 8 - 2 * length pairs) 0

-- the words of node n of a level with these entries
abbrev pub node_page : ℕ → ℕ → Pairs → ℕ → List ℕ
node_page z level entries n = node_words z level (low_of z entries n) (high_fence_of z entries n) (run_of z entries n)

-- the first n nodes of a level
abbrev pub level_pages : ℕ → ℕ → Pairs → ℕ → List (List ℕ)
level_pages z level entries zero = []
level_pages z level entries (suc n) = level_pages z level entries n ++ node_page z level entries n ∷ []

-- the low fences of the first n nodes of a level, with their pages: node 0 is at this page, and the others follow
abbrev pub entries_above : ℕ → ℕ → Pairs → ℕ → Pairs
entries_above z page entries zero = []
entries_above z page entries (suc n) = entries_above z page entries n ++ (low_of z entries n, page + n) ∷ []
