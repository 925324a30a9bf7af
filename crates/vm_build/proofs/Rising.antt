-- A list of pairs by rising key, by place: the keys rise with their places, and a look-up finds what stands where the key does.
use Rattle.std.proofs.Common.{◌≡◌, ℕ, zero, suc, ◌+◌, ◌<◌, ◌≤◌, [], ◌∷◌, length, take, drop, get_or, Some, arith, inl, inr}
use Rattle.std.proofs.lemmas.Bool.{cases_eq}
use Rattle.std.proofs.lemmas.Bool.Decides.{nat_tests}
use Rattle.vm_map.specs.Map.{Pairs, lookup_at, Rises, StartsAt, next_key}

-- the pair in place i
abbrev pub entry_at : Pairs → ℕ → ℕ × ℕ
entry_at m i = get_or m i (0, 0)

pub key_from : (m : Pairs) (low high i : ℕ) → Rises low high m → i < length m → low ≤ (entry_at m i).0
key_from [] low high i r lt = absurd (omega (arith, lt))
key_from (e ∷ es) low high zero r lt = r.0
key_from (e ∷ es) low high (suc i) r lt = omega (arith, key_from es (e.0 + 1) high i r.2 (omega (arith, lt)))

pub key_below : (m : Pairs) (low high i : ℕ) → Rises low high m → i < length m → (entry_at m i).0 < high
key_below [] low high i r lt = absurd (omega (arith, lt))
key_below (e ∷ es) low high zero r lt = r.1
key_below (e ∷ es) low high (suc i) r lt = key_below es (e.0 + 1) high i r.2 (omega (arith, lt))

pub keys_rise : (m : Pairs) (low high i j : ℕ) → Rises low high m → i < j → j < length m → (entry_at m i).0 < (entry_at m j).0
keys_rise [] low high i j r less lt = absurd (omega (arith, lt))
keys_rise (e ∷ es) low high i zero r less lt = absurd (omega (arith, less))
keys_rise (e ∷ es) low high zero (suc j) r less lt = omega (arith, key_from es (e.0 + 1) high j r.2 (omega (arith, lt)))
keys_rise (e ∷ es) low high (suc i) (suc j) r less lt = keys_rise es (e.0 + 1) high i j r.2 (omega (arith, less)) (omega (arith, lt))

-- what a look-up finds stands somewhere
pub stands : (m : Pairs) (k v : ℕ) → lookup_at m k ≡ Some v → (i : ℕ) × (i < length m) × (entry_at m i ≡ (k, v))
stands [] k v found = absurd (cc)
stands (e ∷ es) k v found = elim (cases_eq k e.0) [
  | inl here ↦ (0, omega arith, grind (arith, nat_tests, here, found))
  | inr other ↦ let (i, lt, is) = stands es k v (grind (arith, nat_tests, other, found)) in (suc i, omega (arith, lt), is)
]

-- and what stands somewhere is found
pub finds : (m : Pairs) (low high i : ℕ) → Rises low high m → i < length m → lookup_at m (entry_at m i).0 ≡ Some (entry_at m i).1
finds [] low high i r lt = absurd (omega (arith, lt))
finds (e ∷ es) low high zero r lt = grind (arith, nat_tests)
finds (e ∷ es) low high (suc i) r lt = grind (arith, nat_tests, finds es (e.0 + 1) high i r.2, key_from es (e.0 + 1) high i r.2)

-- the next key stands in the next place
pub next_stands : (m : Pairs) (low high i : ℕ) → Rises low high m → suc i < length m
    → next_key m high (entry_at m i).0 ≡ (entry_at m (suc i)).0
next_stands [] low high i r lt = absurd (omega (arith, lt))
next_stands (e ∷ []) low high i r lt = absurd (omega (arith, lt))
next_stands (e ∷ f ∷ es) low high zero r lt = grind (arith, nat_tests, r.2.0)
next_stands (e ∷ f ∷ es) low high (suc i) r lt =
    grind (arith, nat_tests, next_stands (f ∷ es) (e.0 + 1) high i r.2, key_from (f ∷ es) (e.0 + 1) high i r.2)

pub none_next : (m : Pairs) (low high i : ℕ) → Rises low high m → suc i ≡ length m → next_key m high (entry_at m i).0 ≡ high
none_next [] low high i r last = absurd (omega (arith, last))
none_next (e ∷ []) low high zero r last = grind (arith, nat_tests)
none_next (e ∷ f ∷ es) low high zero r last = absurd (omega (arith, last))
none_next (e ∷ es) low high (suc i) r last = grind (arith, nat_tests, none_next es (e.0 + 1) high i r.2, key_from es (e.0 + 1) high i r.2)

-- parts of a rising list rise
pub Rises-drop : (m : Pairs) (n low from high : ℕ) → Rises low high m → (n < length m → from ≤ (entry_at m n).0)
    → Rises from high (drop n m)
Rises-drop [] zero low from high r first = tt
Rises-drop [] (suc n) low from high r first = tt
Rises-drop (e ∷ es) zero low from high r first = (first (omega arith), r.1, r.2)
Rises-drop (e ∷ es) (suc n) low from high r first = Rises-drop es n (e.0 + 1) from high r.2 (λ lt. first (omega (arith, lt)))

pub Rises-take : (m : Pairs) (n low high to : ℕ) → Rises low high m
    → ((i : ℕ) → i < n → i < length m → (entry_at m i).0 < to) → Rises low to (take n m)
Rises-take [] zero low high to r below = tt
Rises-take [] (suc n) low high to r below = tt
Rises-take (e ∷ es) zero low high to r below = tt
Rises-take (e ∷ es) (suc n) low high to r below =
    let rest = Rises-take es n (e.0 + 1) high to r.2 (λ i lt within. below (suc i) (omega (arith, lt)) (omega (arith, within))) in
    (r.0, below 0 (omega arith) (omega arith), rest)

pub starts : (m : Pairs) (low : ℕ) → 1 ≤ length m → (entry_at m 0).0 ≡ low → StartsAt low m
starts [] low some first = absurd (omega (arith, some))
starts (e ∷ es) low some first = first
