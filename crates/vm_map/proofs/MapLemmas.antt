-- What a look-up finds after an edit of a map.
use Rattle.std.proofs.Common.{◌≡◌, ℕ, true, false, is_some, unwrap_or, min, ◌+◌, ◌<◌, ◌≤◌, ◌≢◌, eqb, ltb, [], ◌∷◌}
use Rattle.std.proofs.Common.{◌++◌, length, Option, Some, None, if◌then◌else◌, refl, ◌∙◌, arith, inl, inr}
use Rattle.std.proofs.lemmas.Bool.{cases_lt}
use Rattle.std.proofs.lemmas.Bool.Decides.{nat_tests}
use Rattle.vm_map.specs.Map.{Pairs, lookup_at, put_pair, del_pair, Rises, StartsAt, next_key, floor_pair, gather}

pub lookup-put_same : (m : Pairs) (k v : ℕ) → lookup_at (put_pair m k v) k ≡ Some v
lookup-put_same [] k v = grind (arith, nat_tests)
lookup-put_same (e ∷ es) k v = grind (arith, nat_tests, lookup-put_same es k v)

pub lookup-put_other : (m : Pairs) (k v q : ℕ) → q ≢ k → lookup_at (put_pair m k v) q ≡ lookup_at m q
lookup-put_other [] k v q ne = grind (arith, nat_tests)
lookup-put_other (e ∷ es) k v q ne = grind (arith, nat_tests, lookup-put_other es k v q ne)

pub Rises-put : (m : Pairs) (low high k v : ℕ) → Rises low high m → low ≤ k → k < high → Rises low high (put_pair m k v)
Rises-put [] low high k v r ge lt = (ge, lt, tt)
Rises-put (e ∷ es) low high k v r ge lt = grind (arith, nat_tests, Rises-put es (e.0 + 1) high k v r.2)

-- no key below low
pub lookup-below : (m : Pairs) (low high q : ℕ) → Rises low high m → q < low → lookup_at m q ≡ None
lookup-below [] low high q r lt = refl
lookup-below (e ∷ es) low high q r lt = grind (arith, nat_tests, lookup-below es (e.0 + 1) high q r.2 (omega (arith, r.0)))

-- no key from high on
pub lookup-above : (m : Pairs) (low high q : ℕ) → Rises low high m → high ≤ q → lookup_at m q ≡ None
lookup-above [] low high q r lt = refl
lookup-above (e ∷ es) low high q r lt = grind (arith, nat_tests, r.1, lookup-above es (e.0 + 1) high q r.2 lt)

pub Rises-from : (m : Pairs) (low low' high : ℕ) → Rises low high m → low' ≤ low → Rises low' high m
Rises-from [] low low' high r le = tt
Rises-from (e ∷ es) low low' high r le = (omega (arith, r.0), r.1, r.2)

pub Rises-to : (m : Pairs) (low high high' : ℕ) → Rises low high m → high ≤ high' → Rises low high' m
Rises-to [] low high high' r le = tt
Rises-to (e ∷ es) low high high' r le = (r.0, omega (arith, r.1), Rises-to es (e.0 + 1) high high' r.2 le)

pub Rises-del : (m : Pairs) (low high k : ℕ) → Rises low high m → Rises low high (del_pair m k)
Rises-del [] low high k r = tt
Rises-del (e ∷ es) low high k r = elim (eqb k e.0) as (λ b. Rises low high (if b then es else e ∷ del_pair es k)) [
  | true ↦ Rises-from es (e.0 + 1) low high r.2 (omega (arith, r.0))
  | false ↦ (r.0, r.1, Rises-del es (e.0 + 1) high k r.2)
]

pub lookup-del_same : (m : Pairs) (low high k : ℕ) → Rises low high m → lookup_at (del_pair m k) k ≡ None
lookup-del_same [] low high k r = refl
lookup-del_same (e ∷ es) low high k r =
    grind (arith, nat_tests, lookup-del_same es (e.0 + 1) high k r.2, lookup-below es (e.0 + 1) high k r.2)

pub lookup-del_other : (m : Pairs) (k q : ℕ) → q ≢ k → lookup_at (del_pair m k) q ≡ lookup_at m q
lookup-del_other [] k q ne = refl
lookup-del_other (e ∷ es) k q ne = grind (arith, nat_tests, lookup-del_other es k q ne)

-- there is nothing to remove
pub del-none : (m : Pairs) (k : ℕ) → lookup_at m k ≡ None → del_pair m k ≡ m
del-none [] k none = refl
del-none (e ∷ es) k none = grind (arith, nat_tests, none, del-none es k)

-- two maps with the same look-ups are the same list
pub map_ext : (a b : Pairs) (low high : ℕ) → Rises low high a → Rises low high b → ((q : ℕ) → lookup_at a q ≡ lookup_at b q) → a ≡ b
map_ext [] [] low high ra rb same = refl
map_ext [] (e ∷ es) low high ra rb same = grind (arith, nat_tests, same e.0)
map_ext (e ∷ es) [] low high ra rb same = grind (arith, nat_tests, same e.0)
map_ext (e ∷ es) (f ∷ fs) low high ra rb same =
    let below_e = lookup-below es (e.0 + 1) high in
    let below_f = lookup-below fs (f.0 + 1) high in
    let keys : e.0 ≡ f.0 = grind (arith, nat_tests, same e.0, same f.0, below_e f.0 ra.2, below_f e.0 rb.2) in
    let values : e.1 ≡ f.1 = grind (arith, nat_tests, same e.0, keys) in
    let rest : es ≡ fs = map_ext es fs (e.0 + 1) high ra.2 (rw (← keys) at rb.2)
    (λ q. grind (arith, nat_tests, same q, keys, below_e q ra.2, below_f q rb.2)) in
    grind (arith, keys, values, rest)

-- a gathered map finds the first pair that has the key
pub lookup-gather : (l : Pairs) (q : ℕ) → lookup_at (gather l) q ≡ lookup_at l q
lookup-gather [] q = refl
lookup-gather (e ∷ es) q =
    grind (
      arith,
      nat_tests,
      lookup-gather es q,
      lookup-put_same (gather es) e.0 e.1,
      lookup-put_other (gather es) e.0
          e.1 q,
    )

-- every key of a list lies in a range
abbrev pub KeysIn : ℕ → ℕ → Pairs → Type 0
KeysIn low high [] = Unit {0}
KeysIn low high (e ∷ es) = (low ≤ e.0) × (e.0 < high) × KeysIn low high es

pub Rises-gather : (l : Pairs) (low high : ℕ) → KeysIn low high l → Rises low high (gather l)
Rises-gather [] low high k = tt
Rises-gather (e ∷ es) low high k = Rises-put (gather es) low high e.0 e.1 (Rises-gather es low high k.2) k.0 k.1

pub KeysIn-from_Rises : (l : Pairs) (low high : ℕ) → Rises low high l → KeysIn low high l
KeysIn-from_Rises [] low high r = tt
KeysIn-from_Rises (e ∷ es) low high r =
    (r.0, r.1, KeysIn-from es (e.0 + 1) low high (omega (arith, r.0)) (KeysIn-from_Rises es (e.0 + 1) high r.2))
  where
    KeysIn-from : (l : Pairs) (low' low high : ℕ) → low ≤ low' → KeysIn low' high l → KeysIn low high l
    KeysIn-from [] low' low high le k = tt
    KeysIn-from (e ∷ es) low' low high le k = (omega (arith, k.0), k.1, KeysIn-from es low' low high le k.2)

pub KeysIn-append : (a b : Pairs) (low high : ℕ) → KeysIn low high a → KeysIn low high b → KeysIn low high (a ++ b)
KeysIn-append [] b low high ka kb = kb
KeysIn-append (e ∷ es) b low high ka kb = (ka.0, ka.1, KeysIn-append es b low high ka.2 kb)

pub lookup-append : (a b : Pairs) (q : ℕ) → lookup_at (a ++ b) q ≡ (if is_some (lookup_at a q) then lookup_at a q else lookup_at b q)
lookup-append [] b q = refl
lookup-append (e ∷ es) b q = grind (arith, nat_tests, lookup-append es b q)

-- a key that is found lies in the range
pub found_low : (m : Pairs) (low high q v : ℕ) → Rises low high m → lookup_at m q ≡ Some v → low ≤ q
found_low [] low high q v r found = absurd (cc)
found_low (e ∷ es) low high q v r found = grind (arith, nat_tests, r.0, found_low es (e.0 + 1) high q v r.2)

pub found_high : (m : Pairs) (low high q v : ℕ) → Rises low high m → lookup_at m q ≡ Some v → q < high
found_high [] low high q v r found = absurd (cc)
found_high (e ∷ es) low high q v r found = grind (arith, nat_tests, r.1, found_high es (e.0 + 1) high q v r.2)

pub next-le_high : (m : Pairs) (low high k : ℕ) → Rises low high m → next_key m high k ≤ high
next-le_high [] low high k r = omega arith
next-le_high (e ∷ es) low high k r = grind (arith, nat_tests, r.1, next-le_high es (e.0 + 1) high k r.2)

-- the next key is at most each key above
pub next-le_found : (m : Pairs) (low high a b v : ℕ) → Rises low high m → lookup_at m b ≡ Some v → a < b → next_key m high a ≤ b
next-le_found [] low high a b v r found lt = absurd (cc)
next-le_found (e ∷ es) low high a b v r found lt =
    grind (arith, nat_tests, r.0, found_low es (e.0 + 1) high b v r.2, next-le_found es (e.0 + 1) high a b v r.2)

-- where no key is up to k, the next key after a lower one is above k
pub next-above_none : (m : Pairs) (low high a k : ℕ) → Rises low high m → a < low → k < high → floor_pair m k ≡ None → k < next_key m high a
next-above_none [] low high a k r lt in_range none = in_range
next-above_none (e ∷ es) low high a k r lt in_range none = grind (arith, nat_tests, r.0)

pub record IsFloor (m : Pairs) (high k : ℕ) (x : ℕ × ℕ) : Type 0 where
  pub found : lookup_at m x.0 ≡ Some x.1
  pub up_to : x.0 ≤ k
  pub next : k < next_key m high x.0

pub floor_is : (m : Pairs) (low high k : ℕ) (x : ℕ × ℕ) → Rises low high m → k < high → floor_pair m k ≡ Some x → IsFloor m high k x
floor_is [] low high k x r lt is = absurd (cc)
floor_is (e ∷ es) low high k x r lt is = go (floor_pair es k) refl (λ y. floor_is es (e.0 + 1) high k y r.2 lt)
  where
    go : (o : Option (ℕ × ℕ)) → floor_pair es k ≡ o → ((y : ℕ × ℕ) → floor_pair es k ≡ Some y → IsFloor es high k y)
        → IsFloor (e ∷ es) high k x
    go None none ih =
        let here : x ≡ e = grind (arith, nat_tests, none, is) in
        let above = next-above_none es (e.0 + 1) high e.0 k r.2 (omega arith) lt none in
        record {
          found = grind (arith, nat_tests, here);
          up_to = grind (arith, nat_tests, here, is);
          next = grind (arith, nat_tests, here, above);
        }
    go (Some y) some ih =
        let there : x ≡ y = grind (arith, nat_tests, some, is) in
        let f = ih y some in
        let low_y = found_low es (e.0 + 1) high y.0 y.1 r.2 f.found in
        record {
          found = grind (arith, nat_tests, there, low_y, f.found);
          up_to = grind (arith, there, f.up_to);
          next = grind (arith, nat_tests, there, low_y, f.next);
        }

pub floor_some : (m : Pairs) (low k : ℕ) → StartsAt low m → low ≤ k → (x : ℕ × ℕ) × (floor_pair m k ≡ Some x)
floor_some [] low k s le = absurd s
floor_some (e ∷ es) low k s le = (unwrap_or (floor_pair es k) e, grind (arith, nat_tests))

-- two keys that both are the greatest up to k are one
pub floor_one : (m : Pairs) (low high k a b v w : ℕ) → Rises low high m → lookup_at m a ≡ Some v → a ≤ k
    → k < next_key m high a → lookup_at m b ≡ Some w → b ≤ k → k < next_key m high b → a ≡ b
floor_one m low high k a b v w r fa la na fb lb nb = grind (arith, next-le_found m low high a b w r fb, next-le_found m low high b a v r fa)

pub Rises-append : (a b : Pairs) (low sep high : ℕ) → Rises low high (a ++ b) → StartsAt sep b → Rises low sep a × Rises sep high b
Rises-append [] [] low sep high r s = absurd s
Rises-append [] (f ∷ fs) low sep high r s = (tt, (omega (arith, s), r.1, r.2))
Rises-append (e ∷ es) b low sep high r s =
    let (left, right) = Rises-append es b (e.0 + 1) sep high r.2 s in
    ((r.0, omega (arith, below es b (e.0 + 1) r.2 s), left), right)
  where
    below : (es b : Pairs) (low : ℕ) → Rises low high (es ++ b) → StartsAt sep b → low ≤ sep
    below [] [] low r s = absurd s
    below [] (f ∷ fs) low r s = omega (arith, r.0, s)
    below (e ∷ es) b low r s = omega (arith, r.0, below es b (e.0 + 1) r.2 s)

-- a list cut before the key sep
pub lookup-cut_below : (a b : Pairs) (low sep high k : ℕ) → Rises low high (a ++ b) → StartsAt sep b → k < sep
    → lookup_at (a ++ b) k ≡ lookup_at a k
lookup-cut_below [] b low sep high k r s lt = lookup-below b sep high k (Rises-append [] b low sep high r s).1 lt
lookup-cut_below (e ∷ es) b low sep high k r s lt = grind (arith, nat_tests, lookup-cut_below es b (e.0 + 1) sep high k r.2 s lt)

pub lookup-cut_above : (a b : Pairs) (low sep high k : ℕ) → Rises low high (a ++ b) → StartsAt sep b → sep ≤ k
    → lookup_at (a ++ b) k ≡ lookup_at b k
lookup-cut_above [] b low sep high k r s le = refl
lookup-cut_above (e ∷ es) b low sep high k r s le =
    grind (
      arith,
      nat_tests,
      (Rises-append (e ∷ es) b low sep high r s).0.1,
      lookup-cut_above es b (e.0 + 1) sep high
          k r.2 s le,
    )

pub next-cut_below : (a b : Pairs) (sep high k : ℕ) → StartsAt sep b → k < sep → next_key (a ++ b) high k ≡ next_key a sep k
next-cut_below [] [] sep high k s lt = absurd s
next-cut_below [] (f ∷ fs) sep high k s lt = grind (arith, nat_tests, s)
next-cut_below (e ∷ es) b sep high k s lt = grind (arith, nat_tests, next-cut_below es b sep high k s lt)

pub next-cut_above : (a b : Pairs) (low sep high k : ℕ) → Rises low high (a ++ b) → StartsAt sep b → sep ≤ k
    → next_key (a ++ b) high k ≡ next_key b high k
next-cut_above [] b low sep high k r s le = refl
next-cut_above (e ∷ es) b low sep high k r s le =
    grind (
      arith,
      nat_tests,
      (Rises-append (e ∷ es) b low sep high r s).0.1,
      next-cut_above es b (e.0 + 1) sep high k
          r.2 s le,
    )

-- the next key after a pair was put at s
pub next-put_from : (m : Pairs) (high s v k : ℕ) → s ≤ k → next_key (put_pair m s v) high k ≡ next_key m high k
next-put_from [] high s v k le = grind (arith, nat_tests)
next-put_from (e ∷ es) high s v k le = grind (arith, nat_tests, next-put_from es high s v k le)

pub next-put_below : (m : Pairs) (high s v k : ℕ) → k < s → s < high → next_key (put_pair m s v) high k ≡ min s (next_key m high k)
next-put_below [] high s v k lt in_range = grind (arith, nat_tests)
next-put_below (e ∷ es) high s v k lt in_range = grind (arith, nat_tests, next-put_below es high s v k lt in_range)

-- between two keys that follow each other, the next key is the same
pub next-between : (m : Pairs) (high k s : ℕ) → k ≤ s → s < next_key m high k → next_key m high s ≡ next_key m high k
next-between [] high k s le lt = refl
next-between (e ∷ es) high k s le lt = grind (arith, nat_tests, next-between es high k s le)

pub length-put : (m : Pairs) (k v : ℕ) → length (put_pair m k v) ≤ length m + 1
length-put [] k v = omega arith
length-put (e ∷ es) k v = grind (arith, nat_tests, length-put es k v)

pub StartsAt-put : (m : Pairs) (low k v : ℕ) → StartsAt low m → low < k → StartsAt low (put_pair m k v)
StartsAt-put [] low k v s lt = absurd s
StartsAt-put (e ∷ es) low k v s lt = elim (cases_lt k e.0) [
  | inl below ↦ absurd (omega (arith, s))
  | inr from ↦ let not_less : ltb k e.0 ≡ false = grind (arith, nat_tests) in let not_same : eqb k e.0 ≡ false =
      grind (arith, nat_tests, s) in rw not_less (rw not_same s)
]

pub StartsAt-append : (a b : Pairs) (low : ℕ) → StartsAt low (a ++ b) → 1 ≤ length a → StartsAt low a
StartsAt-append [] b low s some = absurd (omega arith)
StartsAt-append (e ∷ es) b low s some = s

-- two rising lists, one above the other, are one
pub Rises-join : (a b : Pairs) (low mid high : ℕ) → Rises low mid a → low ≤ mid → Rises mid high b → mid ≤ high → Rises low high (a ++ b)
Rises-join [] b low mid high ra le rb upto = Rises-from b mid low high rb le
Rises-join (e ∷ es) b low mid high ra le rb upto =
    (ra.0, omega (arith, ra.1), Rises-join es b (e.0 + 1) mid high ra.2 (omega (arith, ra.1)) rb upto)

pub found_left : (a b : Pairs) (key : ℕ) → lookup_at b key ≡ None → lookup_at (a ++ b) key ≡ lookup_at a key
found_left a b key none = lookup-append a b key ∙ grind (arith, none)

pub found_right : (a b : Pairs) (key : ℕ) → lookup_at a key ≡ None → lookup_at (a ++ b) key ≡ lookup_at b key
found_right a b key none = lookup-append a b key ∙ grind (arith, none)

pub put_first : (m : Pairs) (low high k v : ℕ) → Rises low high m → k < low → put_pair m k v ≡ (k, v) ∷ m
put_first [] low high k v r lt = refl
put_first (e ∷ es) low high k v r lt = let from = r.0 in grind (arith, nat_tests, from)

-- rising pairs are the map that they make
pub gather_rises : (m : Pairs) (low high : ℕ) → Rises low high m → gather m ≡ m
gather_rises [] low high r = refl
gather_rises (e ∷ es) low high r = rw (gather_rises es (e.0 + 1) high r.2) (put_first es (e.0 + 1) high e.0 e.1 r.2 (omega arith))
