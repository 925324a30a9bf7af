-- The entries of an ordered map in memory are a finite map, and its calls are the map's edits.
use Rattle.std.proofs.Common.{◌≡◌, ℕ, zero, suc, ◌+◌, ◌<◌, ◌≤◌, [], ◌∷◌, length, Some, take, get_or, refl, ap, ◌∙◌, add-one, arith}
use Rattle.std.proofs.lemmas.Bool.Decides.{nat_tests}
use Rattle.std.specs.Ordering.{nat_cmp}
use Rattle.std.specs.BTreeMap.{is_at, insert_entry}
use Rattle.std.specs.Map.{lookup, remove_entry, set_value}
use Rattle.vm_map.specs.Map.{Pairs, lookup_at, put_pair, del_pair, Rises}
use Rattle.vm_map.proofs.MapLemmas.{lookup-below}

pub lookup_is : (m : Pairs) (k : ℕ) → lookup (is_at (nat_cmp k)) m ≡ lookup_at m k
lookup_is [] k = refl
lookup_is (e ∷ es) k = grind (arith, nat_tests, lookup_is es k)

pub insert_is : (m : Pairs) (k v : ℕ) → insert_entry nat_cmp m k v ≡ put_pair m k v
insert_is [] k v = refl
insert_is (e ∷ es) k v = grind (arith, nat_tests, insert_is es k v)

pub remove_is : (m : Pairs) (k : ℕ) → remove_entry (is_at (nat_cmp k)) m ≡ del_pair m k
remove_is [] k = refl
remove_is (e ∷ es) k = grind (arith, nat_tests, remove_is es k)

-- a value that is written over is put
pub set_is : (m : Pairs) (low high k v w : ℕ) → Rises low high m → lookup_at m k ≡ Some w
    → set_value (is_at (nat_cmp k)) m v ≡ put_pair m k v
set_is [] low high k v w r found = absurd (cc)
set_is (e ∷ es) low high k v w r found =
    grind (arith, nat_tests, found, lookup-below es (e.0 + 1) high k r.2, set_is es (e.0 + 1) high k v w r.2)

-- no key of a rising list is below its low end
at_from : (m : Pairs) (d : ℕ × ℕ) (low high i : ℕ) → Rises low high m → i < length m → low ≤ (get_or m i d).0
at_from [] d low high i r lt = absurd (omega (arith, lt))
at_from (e ∷ es) d low high zero r lt = r.0
at_from (e ∷ es) d low high (suc i) r lt = omega (arith, at_from es d (e.0 + 1) high i r.2 (omega (arith, lt)))

-- the next pair of a rising list goes behind those before it
put_next : (m : Pairs) (d : ℕ × ℕ) (low high i : ℕ) → Rises low high m → i < length m
    → put_pair (take i m) (get_or m i d).0 (get_or m i d).1 ≡ take (suc i) m
put_next [] d low high i r lt = absurd (omega (arith, lt))
put_next (e ∷ es) d low high zero r lt = refl
put_next (e ∷ es) d low high (suc i) r lt =
    grind (
      arith,
      nat_tests,
      at_from es d (e.0 + 1) high i r.2 (omega (arith, lt)),
      put_next es d (e.0 + 1) high i r.2
          (omega (arith, lt)),
    )

pub insert_next : (m es : Pairs) (high i k v : ℕ) (x : ℕ × ℕ) → Rises 0 high m → i < length m → es ≡ take i m
    → (k, v) ≡ x → x ≡ get_or m i x → insert_entry nat_cmp es k v ≡ take (i + 1) m
insert_next m es high i k v x r lt front pair at =
    rw (front, add-one i) (insert_is (take i m) k v ∙ ap (λ p. put_pair (take i m) p.0 p.1) (pair ∙ at)
    ∙ put_next m x 0 high i r lt)
