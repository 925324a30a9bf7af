-- A window of the first pairs from a start on shows just the pairs from there up to its bound, also of pairs between two fences.
use Rattle.std.proofs.Common.{◌≡◌, ℕ, zero, suc, ◌+◌, ◌<◌, ◌≤◌, Bool, true, false, [], ◌∷◌, length, take, leb, ltb}
use Rattle.std.proofs.Common.{◌&&◌, if◌then◌else◌, None, refl, ap, arith, length-take}
use Rattle.std.proofs.lemmas.Bool.Decides.{nat_tests}
use Rattle.vm_map.specs.Map.{Pairs, lookup_at, Rises}
use Rattle.vm_map.specs.History.{bound_of, between}
use Rattle.vm_map.specs.Windows.{from_key, bound_after, IsWindow}
use Rattle.vm_map.specs.declared.window.Window.{Window}
use Rattle.vm_map.proofs.MapLemmas.{Rises-from}

-- no pair stands below the first key
between-none : (m : Pairs) (low high start upto : ℕ) → Rises low high m → upto ≤ low → between m start upto ≡ []
between-none [] low high start upto r le = refl
between-none (e ∷ es) low high start upto r le = grind (arith, nat_tests, r.0, between-none es (e.0 + 1) high start upto r.2)

bound_low : (m : Pairs) (low high start most : ℕ) → Rises low high m → low ≤ high → low ≤ bound_after (from_key start m) most high
bound_low [] low high start most r le = le
bound_low (e ∷ es) low high start most r le = go (leb start e.0) most (λ n. bound_low es (e.0 + 1) high start n r.2 (omega (arith, r.1)))
  where
    go : (b : Bool) (most : ℕ) → ((n : ℕ) → e.0 + 1 ≤ bound_after (from_key start es) n high)
        → low ≤ bound_after (if b then e ∷ from_key start es else from_key start es) most high
    go true zero rest = r.0
    go true (suc n) rest = omega (arith, r.0, rest n)
    go false n rest = omega (arith, r.0, rest n)

bound_high : (m : Pairs) (low high start most : ℕ) → Rises low high m → bound_after (from_key start m) most high ≤ high
bound_high [] low high start most r = omega arith
bound_high (e ∷ es) low high start most r = go (leb start e.0) most (λ n. bound_high es (e.0 + 1) high start n r.2)
  where
    go : (b : Bool) (most : ℕ) → ((n : ℕ) → bound_after (from_key start es) n high ≤ high)
        → bound_after (if b then e ∷ from_key start es else from_key start es) most high ≤ high
    go true zero rest = omega (arith, r.1)
    go true (suc n) rest = rest n
    go false n rest = rest n

bound_past : (m : Pairs) (low high start most : ℕ) → Rises low high m → start < high
    → start < bound_after (from_key start m) (suc most) high
bound_past [] low high start most r lt = lt
bound_past (e ∷ es) low high start most r lt =
    go (leb start e.0) refl (bound_low es (e.0 + 1) high start most r.2 (omega (arith, r.1)))
    (bound_past es (e.0 + 1) high start most r.2 lt)
  where
    go : (b : Bool) → leb start e.0 ≡ b → e.0 + 1 ≤ bound_after (from_key start es) most high
        → start < bound_after (from_key start es) (suc most) high
        → start < bound_after (if b then e ∷ from_key start es else from_key start es) (suc most) high
    go true from above rest = let le : start ≤ e.0 = grind (arith, nat_tests, from) in omega (arith, le, above)
    go false below above rest = rest

shown : (m : Pairs) (low high start most : ℕ) → Rises low high m → take most (from_key start m) ≡ between m start
    (bound_after (from_key start m) most high)
shown [] low high start zero r = refl
shown [] low high start (suc n) r = refl
shown (e ∷ es) low high start most r = go (leb start e.0) refl most (λ n. shown es (e.0 + 1) high start n r.2)
    (λ n. bound_low es (e.0 + 1) high start n r.2 (omega (arith, r.1)))
    (λ n. between-none es (e.0 + 1) high start n r.2)
  where
    go : (b : Bool) → leb start e.0 ≡ b → (most : ℕ)
        → ((n : ℕ) → take n (from_key start es) ≡ between es start (bound_after (from_key start es) n high))
        → ((n : ℕ) → e.0 + 1 ≤ bound_after (from_key start es) n high)
        → ((n : ℕ) → n ≤ e.0 + 1 → between es start n ≡ [])
        → take most (if b then e ∷ from_key start es else from_key start es) ≡ between (e ∷ es) start
        (bound_after (if b then e ∷ from_key start es else from_key start es) most high)
    go true from zero rest above none = grind (arith, nat_tests, from, none e.0)
    go true from (suc n) rest above none =
        let inside : (leb start e.0 && ltb e.0 (bound_after (from_key start es) n high)) ≡ true = grind (arith, nat_tests, from, above n) in
        rw inside (ap (λ (l : Pairs). e ∷ l) (rest n))
    go false below n rest above none =
        let outside : (leb start e.0 && ltb e.0 (bound_after (from_key start es) n high)) ≡ false = grind (arith, nat_tests, below) in
        rw outside (rest n)

-- what a window of at least one pair says of pairs that rise from low on and below high
pub window_says : (m : Pairs) (low high start most : ℕ) → Rises low high m → start < high → 1 ≤ most
    → (start < bound_after (from_key start m) most high) × (bound_after (from_key start m) most high ≤ high)
    × (take most (from_key start m) ≡ between m start (bound_after (from_key start m) most high))
    × (length (take most (from_key start m)) ≤ most)
window_says m low high start zero r lt some = absurd (omega arith)
window_says m low high start (suc n) r lt some = (
  bound_past m low high start n r lt,
  bound_high m low high start (suc n) r,
  shown m low high start (suc n) r,
  omega (arith, length-take (suc n) (from_key start m)),
)

-- so it is a reply to whoever asks for at least that many pairs
pub window_replies : (m : Pairs) (low high start most : ℕ) (window : Window) → Rises low high m → start < high
    → 1 ≤ most → IsWindow m high start most window
    → (start < bound_of window.bound) × (bound_of window.bound ≤ high)
    × (window.pairs ≡ between m start (bound_of window.bound)) × (length window.pairs ≤ most)
window_replies m low high start most window r lt some is =
    let says = window_says m low high start most r lt some in
    (rw is.ends says.0, rw is.ends says.1, rw (is.ends, is.shows) says.2, rw is.shows says.3)

pub Rises-between : (m : Pairs) (low high from upto : ℕ) → Rises low high m → Rises low high (between m from upto)
Rises-between [] low high from upto r = tt
Rises-between (e ∷ es) low high from upto r = go (leb from e.0 && ltb e.0 upto) (Rises-between es (e.0 + 1) high from upto r.2)
  where
    go : (b : Bool) → Rises (e.0 + 1) high (between es from upto)
        → Rises low high (if b then e ∷ between es from upto else between es from upto)
    go true rest = (r.0, r.1, rest)
    go false rest = Rises-from _ (e.0 + 1) low high rest (omega (arith, r.0))

pub lookup-between_in : (m : Pairs) (from upto q : ℕ) → from ≤ q → q < upto → lookup_at (between m from upto) q ≡ lookup_at m q
lookup-between_in [] from upto q ge lt = refl
lookup-between_in (e ∷ es) from upto q ge lt = grind (arith, nat_tests, lookup-between_in es from upto q ge lt)

pub lookup-between_out : (m : Pairs) (from upto q : ℕ) → (from ≤ q → q < upto → ⊥) → lookup_at (between m from upto) q ≡ None
lookup-between_out [] from upto q out = refl
lookup-between_out (e ∷ es) from upto q out = grind (arith, nat_tests, out, lookup-between_out es from upto q out)
