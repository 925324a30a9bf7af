-- Where a key stands among pairs, and what a put there does.
use Rattle.std.proofs.Common.{◌≡◌, ℕ, ◌+◌, ◌<◌, ◌≢◌, [], ◌∷◌, length, get_or, set, Some, None, refl, ap, arith, ltb}
use Rattle.std.proofs.Common.{eqb, true, false, inl, inr}
use Rattle.std.proofs.lemmas.Bool.{cases_lt}
use Rattle.std.proofs.lemmas.Bool.Decides.{nat_tests}
use Rattle.std.specs.List.{insert}
use Rattle.vm_map.specs.Map.{Pairs, lookup_at, put_pair, Rises}
use Rattle.vm_map.proofs.MapLemmas.{lookup-below}
use Rattle.vm_node.specs.Places.{place_of}

-- no pair has the key: it is put before the place
pub put-insert : (m : Pairs) (k v : ℕ) → (place_of m k < length m → (get_or m (place_of m k) (0, 0)).0 ≢ k)
    → insert m (place_of m k) (k, v) ≡ put_pair m k v
put-insert [] k v other = refl
put-insert (e ∷ es) k v other = elim (cases_lt e.0 k) [
  | inl below ↦
      let less : ltb e.0 k ≡ true = grind (arith, nat_tests) in
      let not_less : ltb k e.0 ≡ false = grind (arith, nat_tests) in
      let not_same : eqb k e.0 ≡ false = grind (arith, nat_tests) in
      let other' = rw less at other in
      rw (less, not_less, not_same) (ap (λ (l : Pairs). e ∷ l) (put-insert es k v (λ lt. other' (omega arith))))
  | inr from ↦
      let not_less : ltb e.0 k ≡ false = grind (arith, nat_tests) in
      let other' = rw not_less at other in
      let ne = other' (omega arith) in
      let less : ltb k e.0 ≡ true = grind (arith, nat_tests) in
      rw (not_less, less) refl
]

pub put-set : (m : Pairs) (k v : ℕ) → place_of m k < length m → (get_or m (place_of m k) (0, 0)).0 ≡ k
    → set m (place_of m k) (k, v) ≡ put_pair m k v
put-set [] k v lt same = absurd (omega arith)
put-set (e ∷ es) k v lt same = elim (cases_lt e.0 k) [
  | inl below ↦
      let less : ltb e.0 k ≡ true = grind (arith, nat_tests) in
      let not_less : ltb k e.0 ≡ false = grind (arith, nat_tests) in
      let not_same : eqb k e.0 ≡ false = grind (arith, nat_tests) in
      let lt' = rw less at lt in
      let same' = rw less at same in
      rw (less, not_less, not_same) (ap (λ (l : Pairs). e ∷ l) (put-set es k v (omega arith) same'))
  | inr from ↦
      let not_less : ltb e.0 k ≡ false = grind (arith, nat_tests) in
      let same' = rw not_less at same in
      let not_more : ltb k e.0 ≡ false = grind (arith, nat_tests) in
      let equal : eqb k e.0 ≡ true = grind (arith, nat_tests) in
      rw (not_less, not_more, equal) refl
]

pub lookup-place : (m : Pairs) (k : ℕ) → place_of m k < length m → (get_or m (place_of m k) (0, 0)).0 ≡ k
    → lookup_at m k ≡ Some (get_or m (place_of m k) (0, 0)).1
lookup-place [] k lt same = absurd (omega arith)
lookup-place (e ∷ es) k lt same = grind (arith, nat_tests, lookup-place es k)

pub lookup-no_place : (m : Pairs) (low high k : ℕ) → Rises low high m
    → (place_of m k < length m → (get_or m (place_of m k) (0, 0)).0 ≢ k) → lookup_at m k ≡ None
lookup-no_place [] low high k r other = refl
lookup-no_place (e ∷ es) low high k r other =
    grind (arith, nat_tests, other, lookup-below es (e.0 + 1) high k r.2, lookup-no_place es (e.0 + 1) high k r.2)
