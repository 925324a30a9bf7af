-- Pairs of different keys, put in the order of their keys, are the map of the pairs.
use Rattle.std.proofs.Common.{◌≡◌, ℕ, zero, suc, ◌+◌, ◌<◌, ◌≤◌, Bool, true, false, eqb, [], ◌∷◌, length, map, get_or}
use Rattle.std.proofs.Common.{All, Contains, IsPermutation, Option, Some, None, refl, sym, ◌∙◌, ap, arith}
use Rattle.std.proofs.lemmas.Bool.Decides.{nat_tests}
use Rattle.std.proofs.lemmas.List.Sorted.{Contains-permutation, All-permutation, IsPermutation-map, IsPermutation-sym}
use Rattle.std.proofs.lemmas.Map.Keys.{IsDistinct-IsPermutation}
use Rattle.std.specs.List.{IsDistinct, AllByRecursion}
use Rattle.std.specs.List.Sorted.{IsNonDecreasingBy}
use Rattle.vm_map.specs.Keys.{KEY_END}
use Rattle.vm_map.specs.Map.{Pairs, lookup_at, Rises, gather}
use Rattle.vm_map.proofs.MapLemmas.{map_ext, lookup-gather, Rises-gather, KeysIn}
use Rattle.vm_build.specs.Numbers.{HasNoTwins}

-- the other keys are not the first one
others : (e : ℕ × ℕ) (es : Pairs) → HasNoTwins (e ∷ es) → (i : ℕ) (d : ℕ × ℕ) → i < length es → eqb e.0 (get_or es i d).0 ≡ false
unfolding IsDistinct
others e es apart i d lt = go es apart.0 i lt
  where
    go : (es : Pairs) → AllByRecursion (λ k. eqb e.0 k ≡ false) (map (λ (f : ℕ × ℕ). f.0) es) → (i : ℕ)
        → i < length es → eqb e.0 (get_or es i d).0 ≡ false
    go [] all i lt = absurd (omega (arith, lt))
    go (f ∷ fs) all zero lt = all.0
    go (f ∷ fs) all (suc i) lt = go fs all.1 i (omega (arith, lt))

rest_apart : (e : ℕ × ℕ) (es : Pairs) → HasNoTwins (e ∷ es) → HasNoTwins es
unfolding IsDistinct
rest_apart e es apart = apart.1

found_contained : (l : Pairs) (k v : ℕ) → lookup_at l k ≡ Some v → Contains l (k, v)
found_contained [] k v found = absurd (cc)
found_contained (e ∷ es) k v found = go (eqb k e.0) refl (found_contained es k v)
  where
    go : (b : Bool) → eqb k e.0 ≡ b → (lookup_at es k ≡ Some v → Contains es (k, v)) → Contains (e ∷ es) (k, v)
    go true same rest = (0, omega arith, grind (arith, nat_tests, same, found))
    go false other rest = let (i, lt, at) = rest (rw other at found) in (suc i, omega (arith, lt), at)

contained_found : (l : Pairs) (k v : ℕ) → HasNoTwins l → Contains l (k, v) → lookup_at l k ≡ Some v
contained_found l k v apart (i, lt, at) = go l apart i lt at
  where
    go : (l : Pairs) → HasNoTwins l → (i : ℕ) → i < length l → get_or l i (k, v) ≡ (k, v) → lookup_at l k ≡ Some v
    go [] apart i lt at = absurd (omega (arith, lt))
    go (e ∷ es) apart zero lt at = let key : e.0 ≡ k = ap (λ (f : ℕ × ℕ). f.0) at in let value : e.1 ≡ v =
        ap (λ (f : ℕ × ℕ). f.1) at in grind (arith, nat_tests, key, value)
    go (e ∷ es) apart (suc i) lt at =
        let key : (get_or es i (k, v)).0 ≡ k = ap (λ (f : ℕ × ℕ). f.0) at in
        let other : eqb e.0 k ≡ false = rw key at (others e es apart i (k, v) (omega (arith, lt))) in
        grind (arith, nat_tests, other, go es (rest_apart e es apart) i (omega (arith, lt)) at)

rises_from : (l : Pairs) (low : ℕ) → IsNonDecreasingBy (λ (e : ℕ × ℕ). e.0) l → HasNoTwins l
    → All (λ (e : ℕ × ℕ). e.0 < KEY_END) l → ((d : ℕ × ℕ) → 0 < length l → low ≤ (get_or l 0 d).0)
    → Rises low KEY_END l
rises_from [] low up apart below first = tt
rises_from (e ∷ es) low up apart below first = (
  first e (omega arith),
  below 0 e (omega arith),
  rises_from es (e.0 + 1) (λ i j d le lt. up (suc i) (suc j) d (omega (arith, le)) (omega (arith, lt)))
      (rest_apart e es apart) (λ i d lt. below (suc i) d (omega (arith, lt)))
      (λ d some. next d (up 0 1 d (omega arith) (omega (arith, some))) (others e es apart 0 d some)),
)
  where
    next : (d : ℕ × ℕ) → e.0 ≤ (get_or es 0 d).0 → eqb e.0 (get_or es 0 d).0 ≡ false → e.0 + 1 ≤ (get_or es 0 d).0
    next d le other = grind (arith, nat_tests, le, other)

keys_in : (l : Pairs) → All (λ (e : ℕ × ℕ). e.0 < KEY_END) l → KeysIn 0 KEY_END l
keys_in [] below = tt
keys_in (e ∷ es) below = (omega arith, below 0 e (omega arith), keys_in es (λ i d lt. below (suc i) d (omega (arith, lt))))

module _ (pairs sorted : Pairs) (moved : IsPermutation pairs sorted) (apart : HasNoTwins pairs)
    (below : All (λ (e : ℕ × ℕ). e.0 < KEY_END) pairs) (up : IsNonDecreasingBy (λ (e : ℕ × ℕ). e.0) sorted) where
  sorted_apart : HasNoTwins sorted
  sorted_apart = IsDistinct-IsPermutation eqb flips _ _ (IsPermutation-map (λ (e : ℕ × ℕ). e.0) pairs sorted moved) apart
    where
      flips : (x y : ℕ) → eqb x y ≡ eqb y x
      flips x y = grind (arith, nat_tests)

  sorted_finds : (key : ℕ) → lookup_at sorted key ≡ lookup_at pairs key
  sorted_finds key = go (lookup_at pairs key) refl (lookup_at sorted key) refl
    where
      go : (a : Option ℕ) → lookup_at pairs key ≡ a → (b : Option ℕ) → lookup_at sorted key ≡ b → lookup_at sorted key ≡ lookup_at pairs key
      go (Some v) some b is = contained_found sorted key v sorted_apart
          (Contains-permutation pairs sorted (key, v) moved (found_contained pairs key v some)) ∙ sym some
      go None none None is = is ∙ sym none
      go None none (Some v) is =
          let found : lookup_at pairs key ≡ Some v =
          contained_found pairs key v apart
          (Contains-permutation sorted pairs (key, v) (IsPermutation-sym pairs sorted moved)
          (found_contained sorted key v is)) in
          absurd (cc)

  pub sorted_rises : Rises 0 KEY_END sorted
  sorted_rises = rises_from sorted 0 up sorted_apart
      (All-permutation (λ (e : ℕ × ℕ). e.0 < KEY_END) pairs sorted moved below) (λ d some. omega arith)

  pub sorted_is_map : sorted ≡ gather pairs
  sorted_is_map = map_ext sorted (gather pairs) 0 KEY_END sorted_rises
      (Rises-gather pairs 0 KEY_END (keys_in pairs below)) (λ key. sorted_finds key ∙ sym (lookup-gather pairs key))
