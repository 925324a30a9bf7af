-- The map that pages with byte keys hold is one over strings: each key that is read of any words is a string.
use Rattle.std.specs.List.{AllByRecursion}
use Rattle.std.proofs.Common.{[], ◌++◌, ◌+◌, ◌<◌, ◌==◌, ◌∷◌, ◌≡◌, arith, Bool, drop, eqb, false}
use Rattle.std.proofs.Common.{if◌then◌else◌, List, ltb, refl, subst, sym, true, ℕ}
use Rattle.vm_map.specs.Map.{gather, Pairs, put_pair, Rises}
use Rattle.vm_map.proofs.MapLemmas.{KeysIn, Rises-gather}
use Rattle.vm_tree_model.specs.Tree.{leaf_pairs, leaf_part, map_of}
use Rattle.vm_bytes_form.specs.Bytes.{bytes, kind_of}
use Rattle.vm_bytes_form.specs.Forms.{AreKeys, KeyEntry, node_in}
use Rattle.vm_bytes_form.specs.KeyMap.{ranks_of}
use Rattle.vm_bytes_form.specs.Strings.{IsBefore, IsString, rank, RANK_END, string_of}
use Rattle.vm_bytes_form.proofs.KeyMaps.{rank_shows}
use Rattle.vm_bytes_form.proofs.Ranks.{rank-below, string_of_rank}
use Rattle.vm_bytes_node.proofs.ReadKeys.{entries_read}
use Rattle.vm_bytes_history.specs.Heard.{IsKeyMap, KeysRise, strings_of}

-- the number is the rank of a string, the one that is read back
abbrev IsRank : ℕ → Type 0
IsRank k = IsString 64 (string_of k) × (rank (string_of k) ≡ k)

abbrev AreRanks : Pairs → Type 0
AreRanks pairs = AllByRecursion (λ e. IsRank e.0) pairs

rank_is : (s : List ℕ) → IsString 64 s → IsRank (rank s)
rank_is s is =
    subst (λ (t : List ℕ). IsString 64 t × (rank t ≡ rank s)) (sym (string_of_rank 64 s is.fits is.bytes)) (is, refl)

-- ---- what is read of pages are ranks

ranks_both : (a b : Pairs) → AreRanks a → AreRanks b → AreRanks (a ++ b)
ranks_both [] b first second = second
ranks_both (e ∷ a) b first second = (first.0, ranks_both a b first.1 second)

ranks_put : (m : Pairs) (k v : ℕ) → AreRanks m → IsRank k → AreRanks (put_pair m k v)
ranks_put [] k v all is = (is, tt)
ranks_put (e ∷ es) k v all is = go (ltb k e.0) (eqb k e.0) (ranks_put es k v all.1 is)
  where
    go : (less same : Bool) → AreRanks (put_pair es k v)
        → AreRanks (if less then (k, v) ∷ e ∷ es else (if same then (k, v) ∷ es else e ∷ put_pair es k v))
    go true same rest = (is, all)
    go false true rest = (is, all.1)
    go false false rest = (all.0, rest)

ranks_gathered : (pairs : Pairs) → AreRanks pairs → AreRanks (gather pairs)
ranks_gathered [] all = tt
ranks_gathered (e ∷ es) all = ranks_put (gather es) e.0 e.1 (ranks_gathered es all.1) all.0

ranks_ranked : (es : List KeyEntry) → AreKeys es → AreRanks (ranks_of es)
ranks_ranked [] keys = tt
ranks_ranked (e ∷ es) keys = (rank_is e.0 keys.0, ranks_ranked es keys.1)

ranks_read : (words : List ℕ) → AreRanks (leaf_part bytes words)
ranks_read words = go (kind_of (node_in words).tag == 2)
  where
    go : (leaf : Bool) → AreRanks (if leaf then ranks_of (node_in words).entries else [])
    go true = ranks_ranked (node_in words).entries (entries_read words)
    go false = tt

ranks_held : (pages : List (List ℕ)) → AreRanks (leaf_pairs bytes pages)
ranks_held [] = tt
ranks_held (words ∷ pages) =
    ranks_both (leaf_part bytes words) (leaf_pairs bytes pages) (ranks_read words) (ranks_held pages)

-- ---- so they are a map over strings

keys_in : (pairs : Pairs) → AreRanks pairs → KeysIn 0 RANK_END pairs
keys_in [] all = tt
keys_in (e ∷ es) all =
    let below : rank (string_of e.0) < RANK_END = rank-below 64 (string_of e.0) all.0.0.bytes in
    (omega arith, subst (λ k. k < RANK_END) all.0.1 below, keys_in es all.1)

are_keys : (m : Pairs) → AreRanks m → AreKeys (strings_of m)
are_keys [] all = tt
are_keys (e ∷ es) all = (all.0.0, are_keys es all.1)

ranks_back : (m : Pairs) → AreRanks m → ranks_of (strings_of m) ≡ m
ranks_back [] all = refl
ranks_back (e ∷ es) all = λ i. (all.0.1 i, e.1) ∷ ranks_back es all.1 i

-- keys from low on stand behind a string of a lower rank
all_behind : (m : Pairs) (s : List ℕ) (low high : ℕ) → IsString 64 s → rank s < low → AreRanks m → Rises low high m
    → AllByRecursion (λ later. IsBefore s later.0) (strings_of m)
all_behind [] s low high is less all rises = tt
all_behind (e ∷ es) s low high is less all rises = (
  rank_shows 64 s (string_of e.0) is.fits all.0.0.fits is.bytes all.0.0.bytes (omega (arith, less, rises.0, all.0.1)),
  all_behind es s (e.0 + 1) high is (omega (arith, less, rises.0)) all.1 rises.2,
)

keys_rise : (m : Pairs) (low high : ℕ) → AreRanks m → Rises low high m → KeysRise (strings_of m)
keys_rise [] low high all rises = tt
keys_rise (e ∷ es) low high all rises = (
  all_behind es (string_of e.0) (e.0 + 1) high all.0.0 (omega (arith, all.0.1)) all.1 rises.2,
  keys_rise es (e.0 + 1) high all.1 rises.2,
)

pub map_has_strings : (pages : List (List ℕ)) → IsKeyMap (map_of bytes pages) (strings_of (map_of bytes pages))
map_has_strings pages =
    let pairs : Pairs = leaf_pairs bytes (drop 1 pages) in
    let read : AreRanks pairs = ranks_held (drop 1 pages) in
    let all : AreRanks (gather pairs) = ranks_gathered pairs read in
    record {
      keys = are_keys (gather pairs) all;
      rises = keys_rise (gather pairs) 0 RANK_END all (Rises-gather pairs 0 RANK_END (keys_in pairs read));
      same = ranks_back (gather pairs) all;
    }
