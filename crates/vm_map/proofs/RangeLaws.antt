-- The pairs between two keys, cut at a key between them.
use Rattle.std.proofs.Common.{◌≡◌, ℕ, ◌+◌, ◌<◌, ◌≤◌, Bool, true, false, [], ◌∷◌, ◌++◌, leb, ltb, nat_le, ◌&&◌}
use Rattle.std.proofs.Common.{if◌then◌else◌, filter, nat_lt, None, refl, sym, ap, ◌∙◌, arith, ◌⊎◌, inl, inr, ⊎_elim}
use Rattle.std.proofs.lemmas.Bool.{cases_lt}
use Rattle.std.proofs.lemmas.Bool.Decides.{nat_tests}
use Rattle.vm_map.specs.Map.{Pairs, lookup_at, Rises}
use Rattle.vm_map.specs.History.{between}
use Rattle.vm_map.specs.Windows.{from_key}
use Rattle.vm_map.proofs.MapLemmas.{found_left, found_right, map_ext, Rises-join}
use Rattle.vm_map.proofs.WindowLaws.{lookup-between_in, lookup-between_out}

-- between two keys the keys rise between them
pub Rises-narrow : (m : Pairs) (low high from upto least : ℕ) → Rises low high m → (least ≤ from) ⊎ (least ≤ low)
    → Rises least upto (between m from upto)
Rises-narrow [] low high from upto least r le = tt
Rises-narrow (e ∷ es) low high from upto least r le =
    go (leb from e.0) (ltb e.0 upto) refl refl (λ n lt. Rises-narrow es (e.0 + 1) high from upto n r.2 lt)
  where
    later : (least ≤ from) ⊎ (least ≤ e.0 + 1)
    later = ⊎_elim (λ l. inl l) (λ l. inr (omega (arith, l, r.0))) le

    go : (a b : Bool) → leb from e.0 ≡ a → ltb e.0 upto ≡ b
        → ((n : ℕ) → (n ≤ from) ⊎ (n ≤ e.0 + 1) → Rises n upto (between es from upto))
        → Rises least upto (if a && b then e ∷ between es from upto else between es from upto)
    go true true ge lt rest =
        let above : from ≤ e.0 = grind (arith, nat_tests, ge) in
        let below : e.0 < upto = grind (arith, nat_tests, lt) in
        (⊎_elim (λ l. omega (arith, l, above)) (λ l. omega (arith, l, r.0)) le, below, rest (e.0 + 1) (inr (omega arith)))
    go true false ge lt rest = rest least later
    go false _ ge lt rest = rest least later

-- a cut at a key between them
pub between-cut : (m : Pairs) (low high from mid upto : ℕ) → Rises low high m → from ≤ mid → mid ≤ upto
    → between m from upto ≡ between m from mid ++ between m mid upto
between-cut m low high from mid upto r le le' =
    map_ext (between m from upto) (between m from mid ++ between m mid upto) from upto
    (Rises-narrow m low high from upto from r (inl (omega arith)))
    (Rises-join (between m from mid) (between m mid upto) from mid upto
    (Rises-narrow m low high from mid from r (inl (omega arith))) le
    (Rises-narrow m low high mid upto mid r (inl (omega arith))) le')
    (λ q. ⊎_elim
    (λ (below : q < mid).
    let right : lookup_at (between m mid upto) q ≡ None = lookup-between_out m mid upto q (λ ge lt. omega (arith, below, ge)) in
    same-left q below ∙ sym (found_left (between m from mid) (between m mid upto) q right))
    (λ (above : mid ≤ q).
    let left : lookup_at (between m from mid) q ≡ None = lookup-between_out m from mid q (λ ge lt. omega (arith, above, lt)) in
    same-right q above ∙ sym (found_right (between m from mid) (between m mid upto) q left))
    (cases_lt q mid))
  where
    same-left : (q : ℕ) → q < mid → lookup_at (between m from upto) q ≡ lookup_at (between m from mid) q
    same-left q below = ⊎_elim
        (λ (under : q < from). lookup-between_out m from upto q (λ ge lt. omega (arith, under, ge))
        ∙ sym (lookup-between_out m from mid q (λ ge lt. omega (arith, under, ge))))
        (λ (over : from ≤ q). lookup-between_in m from upto q over (omega (arith, below, le'))
        ∙ sym (lookup-between_in m from mid q over below))
        (cases_lt q from)

    same-right : (q : ℕ) → mid ≤ q → lookup_at (between m from upto) q ≡ lookup_at (between m mid upto) q
    same-right q above = ⊎_elim
        (λ (under : q < upto). lookup-between_in m from upto q (omega (arith, above, le)) under
        ∙ sym (lookup-between_in m mid upto q above under))
        (λ (over : upto ≤ q). lookup-between_out m from upto q (λ ge lt. omega (arith, over, lt))
        ∙ sym (lookup-between_out m mid upto q (λ ge lt. omega (arith, over, lt))))
        (cases_lt q upto)

-- there is none between a key and itself, or one below it
pub between-nothing : (m : Pairs) (from upto : ℕ) → upto ≤ from → between m from upto ≡ []
between-nothing [] from upto le = refl
between-nothing (e ∷ es) from upto le = grind (arith, nat_tests, between-nothing es from upto le)

-- those from a key on, without those from another on
pub between_twice : (m : Pairs) (from upto : ℕ) → filter (λ e. nat_lt e.0 upto) (from_key from m) ≡ between m from upto
between_twice [] from upto = refl
between_twice (e ∷ es) from upto = go (nat_le from e.0) (between_twice es from upto)
  where
    go : (b : Bool) → filter (λ (x : ℕ × ℕ). nat_lt x.0 upto) (from_key from es) ≡ between es from upto
        → filter (λ (x : ℕ × ℕ). nat_lt x.0 upto) (if b then e ∷ from_key from es else from_key from es)
        ≡ (if b && nat_lt e.0 upto then e ∷ between es from upto else between es from upto)
    go true rest = ap (λ (l : Pairs). if nat_lt e.0 upto then e ∷ l else l) rest
    go false rest = rest
