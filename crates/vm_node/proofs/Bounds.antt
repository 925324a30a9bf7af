-- A search by halves among keys that rise ends behind the lower ones.
use Rattle.std.proofs.Common.{◌≡◌, ◌≢◌, ℕ, zero, suc, ◌+◌, ◌<◌, ◌≤◌, [], ◌∷◌, length, get_or, None, refl, sym, ap}
use Rattle.std.proofs.Common.{◌∙◌, arith, inl, inr, ltb, eqb, true, false}
use Rattle.std.proofs.lemmas.Bool.Decides.{nat_tests}
use Rattle.std.proofs.lemmas.Bool.{cases_lt}
use Rattle.vm_map.specs.Map.{Pairs, lookup_at, Rises}
use Rattle.vm_node.specs.Places.{HasKeyAt, IsBound, IsIndexOf, index_at, place_of}
use Rattle.vm_node.proofs.PlaceLemmas.{lookup-no_place}

pub at_least : (m : Pairs) (low high i : ℕ) → Rises low high m → i < length m → low ≤ (get_or m i (0, 0)).0
at_least [] low high i r lt = absurd (omega arith)
at_least (e ∷ es) low high zero r lt = r.0
at_least (e ∷ es) low high (suc i) r lt = omega (arith, r.0, at_least es (e.0 + 1) high i r.2 (omega arith))

-- the first key is lower than one that is not the first
first_lower : (e : ℕ × ℕ) (es : Pairs) (high key a : ℕ) → Rises (e.0 + 1) high es → a < suc (length es)
    → (get_or (e ∷ es) a (0, 0)).0 < key → e.0 < key
first_lower e es high key zero r lt below = below
first_lower e es high key (suc a) r lt below = omega (arith, at_least es (e.0 + 1) high a r (omega arith), below)

behind : (e : ℕ × ℕ) (es : Pairs) (key a : ℕ) → IsBound (e ∷ es) key (suc a) → IsBound es key a
behind e es key a b = record {
  inside = omega (arith, b.inside);
  before = λ i is. b.before (suc i) (omega (arith, is));
  here = λ lt. b.here (omega arith);
}

pub bound_place : (m : Pairs) (low high key at : ℕ) → Rises low high m → IsBound m key at → at ≡ place_of m key
bound_place [] low high key at r b = omega (arith, b.inside)
bound_place (e ∷ es) low high key zero r b = let from = b.here (omega arith) in grind (arith, nat_tests, from)
bound_place (e ∷ es) low high key (suc a) r b =
    let last = b.before a (omega arith) in
    let lower = first_lower e es high key a r.2 (omega (arith, b.inside)) last in
    let more = bound_place es (e.0 + 1) high key a r.2 (behind e es key a b) in
    grind (arith, nat_tests, lower, more)

-- among keys that rise the place is that of the pair with the key
index_place : (m : Pairs) (low high key : ℕ) → Rises low high m → place_of m key < length m
    → (get_or m (place_of m key) (0, 0)).0 ≡ key → index_at m key ≡ place_of m key
index_place [] low high key r lt same = refl
index_place (e ∷ es) low high key r lt same = elim (cases_lt e.0 key) [
  | inl below ↦
      let less : ltb e.0 key ≡ true = grind (arith, nat_tests) in
      let other : eqb e.0 key ≡ false = grind (arith, nat_tests) in
      let lt' = rw less at lt in
      let same' = rw less at same in
      rw (less, other) (ap suc (index_place es (e.0 + 1) high key r.2 (omega arith) same'))
  | inr from ↦
      let not_less : ltb e.0 key ≡ false = grind (arith, nat_tests) in
      let same' = rw not_less at same in
      let equal : eqb e.0 key ≡ true = grind (arith, nat_tests) in
      rw (not_less, equal) refl
]

pub index_is : (m : Pairs) (low high key at : ℕ) → Rises low high m → at ≡ place_of m key → HasKeyAt m key at → IsIndexOf m key at
index_is m low high key at r is has =
    let lt : place_of m key < length m = omega (arith, is, has.there) in
    let same : (get_or m (place_of m key) (0, 0)).0 ≡ key = ap (λ (i : ℕ). (get_or m i (0, 0)).0) (sym is) ∙ has.has in
    record { place = is ∙ sym (index_place m low high key r lt same); there = has.there }

pub no_index : (m : Pairs) (low high key at : ℕ) → Rises low high m → at ≡ place_of m key
    → (at < length m → (get_or m at (0, 0)).0 ≢ key) → lookup_at m key ≡ None
no_index m low high key at r is other =
    lookup-no_place m low high key r
    (λ lt same. other (omega (arith, is, lt)) (ap (λ (i : ℕ). (get_or m i (0, 0)).0) is ∙ same))
