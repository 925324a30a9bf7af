-- The next key, and the first pair, of a map from which a pair was taken.
use Rattle.std.proofs.Common.{◌≡◌, ◌≢◌, ℕ, ◌+◌, ◌<◌, [], ◌∷◌, false, refl, arith, eqb}
use Rattle.std.proofs.lemmas.Bool.Decides.{nat_tests}
use Rattle.vm_map.specs.Map.{Pairs, del_pair, Rises, StartsAt, next_key}

-- two keys below all keys have the same next one
pub next-first : (m : Pairs) (low high a b : ℕ) → Rises low high m → a < low → b < low → next_key m high a ≡ next_key m high b
next-first [] low high a b r la lb = refl
next-first (e ∷ es) low high a b r la lb = let from = r.0 in grind (arith, nat_tests, from)

-- a key whose next one stays
pub next-del_other : (m : Pairs) (high s k : ℕ) → next_key m high k ≢ s → next_key (del_pair m s) high k ≡ next_key m high k
next-del_other [] high s k ne = refl
next-del_other (e ∷ es) high s k ne = grind (arith, nat_tests, ne, next-del_other es high s k)

-- a key whose next one went has that one's next
pub next-del_same : (m : Pairs) (low high s k : ℕ) → Rises low high m → k < s → next_key m high k ≡ s
    → next_key (del_pair m s) high k ≡ next_key m high s
next-del_same [] low high s k r lt is = refl
next-del_same (e ∷ es) low high s k r lt is =
    grind (arith, nat_tests, lt, is, next-del_same es (e.0 + 1) high s k r.2 lt, next-first es (e.0 + 1) high k s r.2)

pub StartsAt-del : (m : Pairs) (low s : ℕ) → StartsAt low m → low < s → StartsAt low (del_pair m s)
StartsAt-del [] low s st lt = absurd st
StartsAt-del (e ∷ es) low s st lt = let not_same : eqb s e.0 ≡ false = grind (arith, nat_tests, st, lt) in rw not_same st
