-- Each kind of step keeps what is said of page numbers.
use mathlib.Core.Option.{some}
use lib.ListN.{get_elem?}
use Rattle.std.proofs.Common.{⊎_elim, [], ◌&&◌, ◌++◌, ◌+◌, ◌<◌, ◌||◌, ◌∙◌, ◌∷◌, ◌≡◌, ◌≢◌, ◌≤◌, ◌⊎◌, ap, arith, Bool}
use Rattle.std.proofs.Common.{eqb, eq-eqb, false, if◌then◌else◌, inl, inr, List, refl, slice_set, subst, sym, true}
use Rattle.std.proofs.Common.{true≢false, ℕ}
use Rattle.std.proofs.lemmas.Bool.{cases_Bool, cases_eq, cases_lt, ne_eqb}
use Rattle.vm_owner.specs.Numbers.{has, without}
use Rattle.vm_owner.proofs.NumberLemmas.{has-both, has-without_other, has-without_same}
use Rattle.vm_numbers.specs.Hands.{after_first, after_later, all_zero, freed_of, Hands, in_hand, in_hands, IsGivable}
use Rattle.vm_numbers.specs.Hands.{IsNoOther, IsUsable, less, NumbersFit, unit_if, zeroed}
use Rattle.vm_numbers.proofs.Moves.{Moves, moves-keep}
use Rattle.vm_numbers.proofs.Sums.{hands-at, hands-only, one-false, one-le, one-true}

-- ---- lists

off : {P : Type 0} (b : Bool) → b ≡ true → b ≡ false → P
off b t f = absurd (true≢false (sym t ∙ f))

has-if : (q x : ℕ) (b : Bool) (l : List ℕ) → has q (if b then x ∷ l else l) ≡ ((eqb q x && b) || has q l)
has-if q x true l = ⊎_elim (λ e. rw (eq-eqb q x e) refl) (λ ne. rw (ne_eqb q x ne) refl) (cases_eq q x)
has-if q x false l = ⊎_elim (λ e. rw (eq-eqb q x e) refl) (λ ne. rw (ne_eqb q x ne) refl) (cases_eq q x)

absorbs : (a h : Bool) → ((true && a) || (h && a)) ≡ ((true || h) && a)
absorbs true h = refl
absorbs false true = refl
absorbs false false = refl

pub freed-has : (last drafts : ℕ → List ℕ) (q : ℕ) (qs : List ℕ) → has q (freed_of last drafts qs) ≡ (has q qs && zeroed last drafts q)
freed-has last drafts q [] = refl
freed-has last drafts q (x ∷ xs) =
    has-if q x (zeroed last drafts x) (freed_of last drafts xs)
    ∙ ap (λ b. (eqb q x && zeroed last drafts x) || b) (freed-has last drafts q xs)
    ∙ ⊎_elim
    (λ (e : q ≡ x).
    let t = eq-eqb q x e in
    ap (λ b. (b && zeroed last drafts x) || (has q xs && zeroed last drafts q)) t
    ∙ ap (λ b. (true && b) || (has q xs && zeroed last drafts q)) (ap (zeroed last drafts) (sym e))
    ∙ absorbs (zeroed last drafts q) (has q xs)
    ∙ sym (ap (λ b. (b || has q xs) && zeroed last drafts q) t))
    (λ ne. let f = ne_eqb q x ne in ap (λ b. (b && zeroed last drafts x) || (has q xs && zeroed last drafts q)) f
    ∙ sym (ap (λ b. (b || has q xs) && zeroed last drafts q) f))
    (cases_eq q x)

pub less-has : (q : ℕ) (ms l : List ℕ) → has q (less ms l) ≡ (if has q ms then false else has q l)
less-has q [] l = refl
less-has q (m ∷ ms) l =
    less-has q ms (without m l)
    ∙ ⊎_elim
    (λ e. rw (eq-eqb q m e, ap (λ n. has n (without m l)) e ∙ has-without_same m l) (none (has q ms)))
    (λ ne. rw (ne_eqb q m ne, has-without_other m q l ne) refl)
    (cases_eq q m)
  where
    none : (b : Bool) → (if b then false else false) ≡ false
    none true = refl
    none false = refl

-- numbers that stay, but perhaps for one
kept-has : (b : Bool) (p q : ℕ) (l : List ℕ) → q ≢ p → has q (if b then l else without p l) ≡ has q l
kept-has true p q l ne = refl
kept-has false p q l ne = has-without_other p q l ne

kept-was : (b : Bool) (p q : ℕ) (l : List ℕ) → has q (if b then l else without p l) ≡ true → has q l ≡ true
kept-was true p q l e = e
kept-was false p q l e =
    ⊎_elim (λ (same : q ≡ p). off (has q (without p l)) e (ap (λ n. has n (without p l)) same ∙ has-without_same p l))
    (λ ne. sym (has-without_other p q l ne) ∙ e) (cases_eq q p)

kept-le : (b : Bool) (p q : ℕ) (l : List ℕ) → unit_if (has q (if b then l else without p l)) ≤ unit_if (has q l)
kept-le b p q l =
    ⊎_elim
    (λ t. let one = one-true (has q l) (kept-was b p q l t) in let le =
    one-le (has q (if b then l else without p l)) in omega (arith, one, le))
    (λ f. let none = one-false (has q (if b then l else without p l)) f in omega (arith, none))
    (cases_Bool (has q (if b then l else without p l)))

-- of two lists, where the first has it not
behind : (q : ℕ) (l m : List ℕ) → has q l ≡ false → has q (l ++ m) ≡ has q m
behind q l m f = has-both q l m ∙ ap (λ b. b || has q m) f

front : (q : ℕ) (l m : List ℕ) → has q l ≡ true → has q (l ++ m) ≡ true
front q l m t = has-both q l m ∙ ap (λ b. b || has q m) t

-- ---- a step that changes no number

pub quiet_keeps : (set : ℕ → Bool) (next next' : ℕ) (last last' logical logical' : ℕ → List ℕ) (hands : List Hands) → next ≤ next'
    → ((p : ℕ) → (all_zero (last p) ≡ true → all_zero (last' p) ≡ true) × (all_zero (logical p) ≡ true → all_zero (logical' p) ≡ true))
    → NumbersFit set next last logical hands → NumbersFit set next' last' logical' hands
quiet_keeps set next next' last last' logical logical' hands up same fit = record {
  once = fit.once;
  below = λ p e. omega (arith, up, fit.below p e);
  free = λ p e. let o = fit.free p e in ((same p).0 o.0, (same p).1 o.1);
  held = λ j u at p e. let o = fit.held j u at p e in ((same p).0 o.0, λ n. (same p).1 (o.1 n));
  freed = λ j u at p e. let o = fit.freed j u at p e in ((same p).1 o.0, λ n. (same p).0 (o.1 n));
}

module _ (set : ℕ → Bool) (next : ℕ) (last logical : ℕ → List ℕ) (hands : List Hands) (id : ℕ) (h : Hands)
    (there : get_elem? hands id ≡ some h) (fit : NumbersFit set next last logical hands) where
  -- the pass's own numbers are in its hands alone
  mine : (q : ℕ) → 1 ≤ in_hand q h → (unit_if (set q) ≡ 0) × (in_hands q hands ≡ in_hand q h) × (in_hand q h ≡ 1)
  mine q some' = let at = hands-at q hands id h there in let once = fit.once q in
      (omega (arith, at, once, some'), omega (arith, at, once, some'), omega (arith, at, once, some'))

  -- ---- the three events on free-number words

  -- numbers whose bits are set are taken
  pub take_keeps : (set' : ℕ → Bool) (mask : ℕ → Bool) (l : List ℕ)
      → ((p : ℕ) → mask p ≡ true → (set p ≡ true) × (set' p ≡ false)) → ((p : ℕ) → mask p ≡ false → set' p ≡ set p)
      → ((p : ℕ) → has p l ≡ mask p) → NumbersFit set' next last logical (slice_set hands id (record h { numbers = l ++ h.numbers }))
  take_keeps set' mask l taken stays are =
      moves-keep set set' next next last last logical logical hands id h (record h { numbers = l ++ h.numbers }) there (omega arith)
      (λ p. ⊎_elim
      (λ t.
      let was = (taken p t).0 in
      let zero = fit.free p was in
      let some' = one-true (has p (l ++ h.numbers)) (front p l h.numbers (are p ∙ t)) in
      let one = one-true (set p) was in
      let none = one-false (set' p) (taken p t).1 in
      record {
        count = inl (omega (arith, some', one, none));
        words = inl (λ z. z, λ z. z);
        free = λ _. zero;
        held = λ _. (zero.0, λ _. zero.1);
        freed = λ e. fit.freed id h there p e;
      })
      (λ f.
      let same = stays p f in
      let list = behind p l h.numbers (are p ∙ f) in
      let one = ap unit_if same in
      let two = ap unit_if list in
      record {
        count = inl (omega (arith, one, two));
        words = inl (λ z. z, λ z. z);
        free = λ e. fit.free p (sym same ∙ e);
        held = λ e. fit.held id h there p (sym list ∙ e);
        freed = λ e. fit.freed id h there p e;
      })
      (cases_Bool (mask p)))
      fit

  -- numbers that the pass holds, or of pages that it freed, are given; a member still to be released is a page of logical words that are 0
  pub give_keeps : (set' : ℕ → Bool) (mask : ℕ → Bool) (l m : List ℕ) → ((p : ℕ) → mask p ≡ true → set' p ≡ true)
      → ((p : ℕ) → mask p ≡ false → set' p ≡ set p)
      → ((p : ℕ) → mask p ≡ true → ((has p h.numbers ≡ true) ⊎ (has p h.freed ≡ true)) × IsGivable h (logical p) p)
      → ((p : ℕ) → has p l ≡ (if mask p then false else has p h.numbers)) → ((p : ℕ) → has p m ≡ (if mask p then false else has p h.freed))
      → NumbersFit set' next last logical (slice_set hands id (record h { numbers = l; freed = m }))
  give_keeps set' mask l m given stays may numbers freed =
      moves-keep set set' next next last last logical logical hands id h (record h { numbers = l; freed = m }) there (omega arith)
      (λ p. ⊎_elim
      (λ t.
      let ok = may p t in
      let no_number : has p l ≡ false = numbers p ∙ ap (λ b. if b then false else has p h.numbers) t in
      let no_freed : has p m ≡ false = freed p ∙ ap (λ b. if b then false else has p h.freed) t in
      let zero : (all_zero (last p) ≡ true) × (all_zero (logical p) ≡ true) =
      ⊎_elim
      (λ none. ⊎_elim (λ n. let o = fit.held id h there p n in (o.0, o.1 none))
      (λ n. let o = fit.freed id h there p n in (o.1 none, o.0)) ok.0)
      (λ k. ((fit.held id h there p k.0).0, k.1))
      ok.1 in
      let one = one-le (set' p) in
      let gone = one-false (has p l) no_number in
      let gone_too = one-false (has p m) no_freed in
      let was : 1 ≤ unit_if (has p h.numbers) + unit_if (has p h.freed) =
      ⊎_elim (λ n. let k = one-true (has p h.numbers) n in omega (arith, k))
      (λ n. let k = one-true (has p h.freed) n in omega (arith, k)) ok.0 in
      record {
        count = inl (omega (arith, one, gone, gone_too, was));
        words = inl (λ z. z, λ z. z);
        free = λ _. zero;
        held = λ e. off (has p l) e no_number;
        freed = λ e. off (has p m) e no_freed;
      })
      (λ f.
      let same = stays p f in
      let list : has p l ≡ has p h.numbers = numbers p ∙ ap (λ b. if b then false else has p h.numbers) f in
      let list_too : has p m ≡ has p h.freed = freed p ∙ ap (λ b. if b then false else has p h.freed) f in
      let one = ap unit_if same in
      let two = ap unit_if list in
      let three = ap unit_if list_too in
      record {
        count = inl (omega (arith, one, two, three));
        words = inl (λ z. z, λ z. z);
        free = λ e. fit.free p (sym same ∙ e);
        held = λ e. fit.held id h there p (sym list ∙ e);
        freed = λ e. fit.freed id h there p (sym list_too ∙ e);
      })
      (cases_Bool (mask p)))
      fit

  -- ---- a claim

  pub claim_keeps : (next' : ℕ) (l : List ℕ) → next ≤ next' → ((p : ℕ) → has p l ≡ true → (next ≤ p) × (p < next'))
      → NumbersFit set next' last logical (slice_set hands id (record h { owed = l ++ h.owed }))
  claim_keeps next' l up inside =
      moves-keep set set next next' last last logical logical hands id h (record h { owed = l ++ h.owed }) there up
      (λ p. ⊎_elim
      (λ t.
      let at = hands-at p hands id h there in
      let range = inside p t in
      let nowhere : unit_if (set p) + in_hands p hands ≡ 0 =
      ⊎_elim (λ lt. omega (arith, lt)) (λ ge. absurd (let low = fit.below p ge in omega (arith, low, range.0)))
      (cases_lt (unit_if (set p) + in_hands p hands) 1) in
      let one = one-le (has p (l ++ h.owed)) in
      record {
        count = inr (nowhere, omega (arith, nowhere, at, one), range.1);
        words = inl (λ z. z, λ z. z);
        free = fit.free p;
        held = fit.held id h there p;
        freed = fit.freed id h there p;
      })
      (λ f. let same = ap unit_if (behind p l h.owed f) in
      record {
        count = inl (omega (arith, same));
        words = inl (λ z. z, λ z. z);
        free = fit.free p;
        held = fit.held id h there p;
        freed = fit.freed id h there p;
      })
      (cases_Bool (has p l)))
      fit

  -- ---- releases

  -- a page of words that are not all 0 has no number anywhere, but that it may be owed
  module _ (q : ℕ) (alone : IsNoOther hands id q) (free : has q h.pending ≡ false) (used : all_zero (last q) ≡ false) where
    not_set : set q ≡ false
    not_set = ⊎_elim (λ t. off (all_zero (last q)) (fit.free q t).0 used) (λ f. f) (cases_Bool (set q))

    not_held : has q h.numbers ≡ false
    not_held = ⊎_elim (λ t. off (all_zero (last q)) (fit.held id h there q t).0 used) (λ f. f) (cases_Bool (has q h.numbers))

    not_freed : has q h.freed ≡ false
    not_freed = ⊎_elim (λ t. off (all_zero (last q)) ((fit.freed id h there q t).1 free) used) (λ f. f) (cases_Bool (has q h.freed))

    others_not : (j : ℕ) (u : Hands) → j ≢ id → get_elem? hands j ≡ some u → in_hand q u ≡ 0
    others_not j u ne at =
        let k = alone j u ne at in
        let a : has q u.numbers ≡ false = ⊎_elim (λ t. off (all_zero (last q)) (fit.held j u at q t).0 used) (λ f. f)
        (cases_Bool (has q u.numbers)) in
        let b : has q u.freed ≡ false = ⊎_elim (λ t. off (all_zero (last q)) ((fit.freed j u at q t).1 k.0) used)
        (λ f. f) (cases_Bool (has q u.freed)) in
        let x = one-false (has q u.numbers) a in
        let y = one-false (has q u.freed) b in
        let z = one-false (has q u.owed) k.1 in
        omega (arith, x, y, z)

    only : in_hands q hands ≡ in_hand q h
    only = hands-only q hands id h there others_not

  module _ (p : ℕ) (rest : List ℕ) (drafts last' logical' : ℕ → List ℕ)
      (alone : (q : ℕ) → has q (p ∷ rest) ≡ true → IsNoOther hands id q)
      (members : (q : ℕ) → has q (p ∷ rest) ≡ true → (has q h.pending ≡ false) × IsUsable h (last q) (drafts q) q)
      (apart : has p rest ≡ false)
      (used : (q : ℕ) → has q (p ∷ rest) ≡ true → all_zero (last q) ≡ false → q < next)
      (was : (q : ℕ) → has q (p ∷ rest) ≡ true → logical q ≡ last q)
      (here : last' p ≡ drafts p) (there_last : (q : ℕ) → q ≢ p → last' q ≡ last q)
      (inside : (q : ℕ) → has q (p ∷ rest) ≡ true → logical' q ≡ drafts q)
      (outside : (q : ℕ) → has q (p ∷ rest) ≡ false → logical' q ≡ logical q) where
    abbrev after : Hands
    after = after_first p rest last drafts h

    -- a member that is none still to be released is the first
    first : (q : ℕ) → has q (p ∷ rest) ≡ true → has q (rest ++ h.pending) ≡ false → q ≡ p
    first q e none = ⊎_elim (λ s. s)
        (λ ne. off (has q (rest ++ h.pending))
        (front q rest h.pending (sym (ap (λ b. b || has q rest) (ne_eqb q p ne)) ∙ e)) none) (cases_eq q p)

    freed-is : (q : ℕ) → has q after.freed ≡ ((has q (p ∷ rest) && zeroed last drafts q) || has q h.freed)
    freed-is q = has-both q (freed_of last drafts (p ∷ rest)) h.freed ∙ ap (λ b. b || has q h.freed) (freed-has last drafts q (p ∷ rest))

    owed-is : (q : ℕ) → has q after.owed ≡ (if has q (p ∷ rest) then false else has q h.owed)
    owed-is q = less-has q (p ∷ rest) h.owed

    number-le : (q : ℕ) → unit_if (has q after.numbers) ≤ unit_if (has q h.numbers)
    number-le q = kept-le (all_zero (drafts p)) p q h.numbers

    number-was : (q : ℕ) → has q after.numbers ≡ true → has q h.numbers ≡ true
    number-was q = kept-was (all_zero (drafts p)) p q h.numbers

    -- a held number of the first page stays held where the draft is zero
    number-zero : has p after.numbers ≡ true → all_zero (drafts p) ≡ true
    number-zero e = ⊎_elim (λ t. t)
        (λ f. off (has p (without p h.numbers))
        (sym (ap (λ b. has p (if b then h.numbers else without p h.numbers)) f) ∙ e) (has-without_same p h.numbers))
        (cases_Bool (all_zero (drafts p)))

    abbrev Move : ℕ → Type 0
    Move q = Moves set set next last last' logical logical' hands h after q

    -- a page that the release frees
    frees : (q : ℕ) → has q (p ∷ rest) ≡ true → all_zero (last q) ≡ false → all_zero (drafts q) ≡ true → Move q
    frees q e full empty =
        let free = (members q e).0 in
        let no_bit = one-false (set q) (not_set q (alone q e) free full) in
        let no_number = not_held q (alone q e) free full in
        let n = one-false (has q h.numbers) no_number in
        let f = one-false (has q h.freed) (not_freed q (alone q e) free full) in
        let le = number-le q in
        let one = one-le (has q after.freed) in
        let o : unit_if (has q after.owed) ≡ 0 = one-false (has q after.owed) (owed-is q ∙ ap (λ b. if b then false else has q h.owed) e) in
        record {
          count = ⊎_elim
              (λ t. let k = one-true (has q h.owed) t in inl (omega (arith, no_bit, n, f, le, one, o, k)))
              (λ t. let k = one-false (has q h.owed) t in let all = only q (alone q e) free full in
              inr (omega (arith, no_bit, n, f, k, all), omega (arith, no_bit, n, le, one, o), used q e full))
              (cases_Bool (has q h.owed));
          words = inl (λ z. off (all_zero (last q)) z full, λ z. off (all_zero (last q)) (sym (ap all_zero (was q e)) ∙ z) full);
          free = λ t. off (set q) t (not_set q (alone q e) free full);
          held = λ t. off (has q h.numbers) (number-was q t) no_number;
          freed = λ _. (
            ap all_zero (inside q e) ∙ empty,
            λ none. let s = first q e none in
                ap (λ y. all_zero (last' y)) s ∙ ap all_zero here ∙ ap (λ y. all_zero (drafts y)) (sym s) ∙ empty,
          );
        }

    -- what a member that is not freed has left
    module _ (q : ℕ) (e : has q (p ∷ rest) ≡ true) (stays : zeroed last drafts q ≡ false) where
      freed-same : has q after.freed ≡ has q h.freed
      freed-same = freed-is q ∙ (λ i. (e i && stays i) || has q h.freed)

      fewer : unit_if (set q) + in_hand q after ≤ unit_if (set q) + in_hand q h
      fewer =
          let o : unit_if (has q after.owed) ≡ 0 =
          one-false (has q after.owed) (owed-is q ∙ ap (λ b. if b then false else has q h.owed) e) in
          let f = ap unit_if freed-same in
          let le = number-le q in
          omega (arith, o, f, le)

      -- it has the words that it had
      unchanged : drafts q ≡ last q → Move q
      unchanged same =
          let last-is : last' q ≡ last q = ⊎_elim (λ s. ap last' s ∙ here ∙ ap drafts (sym s) ∙ same)
          (λ ne. there_last q ne) (cases_eq q p) in
          let logical-is : logical' q ≡ logical q = inside q e ∙ same ∙ sym (was q e) in
          let free = (members q e).0 in
          record {
            count = inl fewer;
            words = inl (λ z. ap all_zero last-is ∙ z, λ z. ap all_zero logical-is ∙ z);
            free = λ t. let o = fit.free q t in (ap all_zero last-is ∙ o.0, ap all_zero logical-is ∙ o.1);
            held = λ t. let o = fit.held id h there q (number-was q t) in
                (ap all_zero last-is ∙ o.0, λ _. ap all_zero logical-is ∙ ap all_zero (was q e) ∙ o.0);
            freed = λ t. let o = fit.freed id h there q (sym freed-same ∙ t) in
                (ap all_zero logical-is ∙ o.0, λ _. ap all_zero last-is ∙ o.1 free);
          }

      -- it was in use, and is
      in_use : all_zero (last q) ≡ false → Move q
      in_use full =
          let free = (members q e).0 in
          record {
            count = inl fewer;
            words = inl (λ z. off (all_zero (last q)) z full, λ z. off (all_zero (last q)) (sym (ap all_zero (was q e)) ∙ z) full);
            free = λ t. off (set q) t (not_set q (alone q e) free full);
            held = λ t. off (has q h.numbers) (number-was q t) (not_held q (alone q e) free full);
            freed = λ t. off (has q h.freed) (sym freed-same ∙ t) (not_freed q (alone q e) free full);
          }

      -- it was owed to the pass
      paid : has q h.owed ≡ true → Move q
      paid o =
          let k = one-true (has q h.owed) o in
          let m = mine q (omega (arith, k)) in
          let no_number : has q h.numbers ≡ false =
          ⊎_elim (λ t. let x = one-true (has q h.numbers) t in absurd (omega (arith, x, k, m.2))) (λ f. f)
          (cases_Bool (has q h.numbers)) in
          let no_freed : has q h.freed ≡ false =
          ⊎_elim (λ t. let x = one-true (has q h.freed) t in absurd (omega (arith, x, k, m.2))) (λ f. f)
          (cases_Bool (has q h.freed)) in
          record {
            count = inl fewer;
            words = inr m.1;
            free = λ t. let x = one-true (set q) t in absurd (omega (arith, x, m.0));
            held = λ t. off (has q h.numbers) (number-was q t) no_number;
            freed = λ t. off (has q h.freed) (sym freed-same ∙ t) no_freed;
          }

      -- its number is held by the pass
      held_by : has q h.numbers ≡ true → Move q
      held_by n =
          let k = one-true (has q h.numbers) n in
          let m = mine q (omega (arith, k)) in
          let no_freed : has q h.freed ≡ false =
          ⊎_elim (λ t. let x = one-true (has q h.freed) t in absurd (omega (arith, x, k, m.2))) (λ f. f)
          (cases_Bool (has q h.freed)) in
          let o = fit.held id h there q n in
          record {
            count = inl fewer;
            words = inr m.1;
            free = λ t. let x = one-true (set q) t in absurd (omega (arith, x, m.0));
            held = λ t. (
              ⊎_elim
                  (λ (s : q ≡ p). ap (λ y. all_zero (last' y)) s ∙ ap all_zero here
                  ∙ number-zero (sym (ap (λ y. has y after.numbers) s) ∙ t))
                  (λ ne. ap all_zero (there_last q ne) ∙ o.0)
                  (cases_eq q p),
              λ none. let s = first q e none in ap all_zero (inside q e) ∙ ap (λ y. all_zero (drafts y)) s
                  ∙ number-zero (sym (ap (λ y. has y after.numbers) s) ∙ t),
            );
            freed = λ t. off (has q h.freed) (sym freed-same ∙ t) no_freed;
          }

      member : Move q
      member = ⊎_elim unchanged (λ r. ⊎_elim in_use (λ r'. ⊎_elim paid held_by r') r) (members q e).1

    -- a page that is none of the group
    stranger : (q : ℕ) → has q (p ∷ rest) ≡ false → Move q
    stranger q e =
        let ne : q ≢ p = λ s. off (has q (p ∷ rest)) (ap (λ b. b || has q rest) (eq-eqb q p s)) e in
        let out : has q rest ≡ false = sym (ap (λ b. b || has q rest) (ne_eqb q p ne)) ∙ e in
        let numbers = kept-has (all_zero (drafts p)) p q h.numbers ne in
        let freed : has q after.freed ≡ has q h.freed = freed-is q ∙ ap (λ b. (b && zeroed last drafts q) || has q h.freed) e in
        let owed : has q after.owed ≡ has q h.owed = owed-is q ∙ ap (λ b. if b then false else has q h.owed) e in
        let pending : has q after.pending ≡ has q h.pending = behind q rest h.pending out in
        let last-is = ap all_zero (there_last q ne) in
        let logical-is = ap all_zero (outside q e) in
        let x = ap unit_if numbers in
        let y = ap unit_if freed in
        let z = ap unit_if owed in
        record {
          count = inl (omega (arith, x, y, z));
          words = inl (λ k. last-is ∙ k, λ k. logical-is ∙ k);
          free = λ t. let o = fit.free q t in (last-is ∙ o.0, logical-is ∙ o.1);
          held = λ t. let o = fit.held id h there q (sym numbers ∙ t) in (last-is ∙ o.0, λ n. logical-is ∙ o.1 (sym pending ∙ n));
          freed = λ t. let o = fit.freed id h there q (sym freed ∙ t) in (logical-is ∙ o.0, λ n. last-is ∙ o.1 (sym pending ∙ n));
        }

    -- the first release of a group, or of a page alone
    pub first_keeps : NumbersFit set next last' logical' (slice_set hands id after)
    first_keeps = moves-keep set set next next last last' logical logical' hands id h after there (omega arith)
        (λ q. ⊎_elim
        (λ e. ⊎_elim
        (λ z. member q e (ap (λ b. if b then false else all_zero (drafts q)) z))
        (λ full. ⊎_elim (λ empty. frees q e full empty)
        (λ stays. member q e (ap (λ b. if b then false else all_zero (drafts q)) full ∙ stays))
        (cases_Bool (all_zero (drafts q))))
        (cases_Bool (all_zero (last q))))
        (λ e. stranger q e)
        (cases_Bool (has q (p ∷ rest))))
        fit

  -- a later member of its group is released
  module _ (p : ℕ) (drafts last' : ℕ → List ℕ) (pending : has p h.pending ≡ true) (alone : IsNoOther hands id p)
      (was : logical p ≡ drafts p)
      (here : last' p ≡ drafts p) (there_last : (q : ℕ) → q ≢ p → last' q ≡ last q) where
    abbrev later : Hands
    later = after_later p drafts h

    later-here : Moves set set next last last' logical logical hands h later p
    later-here =
        let le = kept-le (all_zero (drafts p)) p p h.numbers in
        ⊎_elim
        (λ z.
        let a : all_zero (last' p) ≡ true = ap all_zero here ∙ z in
        let b : all_zero (logical p) ≡ true = ap all_zero was ∙ z in
        record {
          count = inl (omega (arith, le));
          words = inl (λ _. a, λ k. k);
          free = λ _. (a, b);
          held = λ _. (a, λ _. b);
          freed = λ _. (b, λ _. a);
        })
        (λ full.
        let used : all_zero (logical p) ≡ false = ap all_zero was ∙ full in
        let no_bit : set p ≡ false = ⊎_elim (λ t. off (all_zero (logical p)) (fit.free p t).1 used) (λ f. f) (cases_Bool (set p)) in
        let none : (j : ℕ) (u : Hands) → j ≢ id → get_elem? hands j ≡ some u → in_hand p u ≡ 0 = (λ j u ne at.
        let k = alone j u ne at in
        let c : has p u.numbers ≡ false = ⊎_elim (λ t. off (all_zero (logical p)) ((fit.held j u at p t).1 k.0) used)
        (λ f. f) (cases_Bool (has p u.numbers)) in
        let d : has p u.freed ≡ false = ⊎_elim (λ t. off (all_zero (logical p)) (fit.freed j u at p t).0 used)
        (λ f. f) (cases_Bool (has p u.freed)) in
        let x = one-false (has p u.numbers) c in
        let y = one-false (has p u.freed) d in
        let z = one-false (has p u.owed) k.1 in
        omega (arith, x, y, z)) in
        let gone : has p later.numbers ≡ false = ap (λ b. has p (if b then h.numbers else without p h.numbers)) full
        ∙ has-without_same p h.numbers in
        record {
          count = inl (omega (arith, le));
          words = inr (hands-only p hands id h there none);
          free = λ t. off (set p) t no_bit;
          held = λ t. off (has p later.numbers) t gone;
          freed = λ t. off (all_zero (logical p)) (fit.freed id h there p t).0 used;
        })
        (cases_Bool (all_zero (drafts p)))

    later-else : (q : ℕ) → q ≢ p → Moves set set next last last' logical logical hands h later q
    later-else q ne =
        let numbers = kept-has (all_zero (drafts p)) p q h.numbers ne in
        let member = has-without_other p q h.pending ne in
        let last-is = ap all_zero (there_last q ne) in
        let x = ap unit_if numbers in
        record {
          count = inl (omega (arith, x));
          words = inl (λ k. last-is ∙ k, λ k. k);
          free = λ t. let o = fit.free q t in (last-is ∙ o.0, o.1);
          held = λ t. let o = fit.held id h there q (sym numbers ∙ t) in (last-is ∙ o.0, λ n. o.1 (sym member ∙ n));
          freed = λ t. let o = fit.freed id h there q t in (o.0, λ n. last-is ∙ o.1 (sym member ∙ n));
        }

    pub later_keeps : NumbersFit set next last' logical (slice_set hands id later)
    later_keeps = moves-keep set set next next last last' logical logical hands id h later there (omega arith)
        (λ q. ⊎_elim (λ (s : q ≡ p). subst (Moves set set next last last' logical logical hands h later) (sym s)
        later-here) (λ ne. later-else q ne) (cases_eq q p))
        fit
