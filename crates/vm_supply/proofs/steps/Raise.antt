-- A fault word that is raised to the count of the page's block: a count that it rises to was noted by nobody before;
-- that the table allows it.
--
-- What a raise of a page's fault word leaves: the step works on that page, which is locked meanwhile; a count that
-- the word rises to is noted.
use Rattle.std.proofs.Common.{eq-eqb, ne_eqb}
use Rattle.vm_step.specs.from_vm_rule.declared_view_WordPlace_TheVariants as places
use Rattle.vm_step.proofs.{Fit.fit, Leaves.works-one, Standing.allows, Written.word-left}
use Rattle.vm_supply.proofs.{Slots.device-shows, Slots.may-call}
use Rattle.vm_step.proofs.Prelude.{[], after_more, AllowsStep, ap, arith, at-bound, at_set, block-same, block_of}
use Rattle.vm_step.proofs.Prelude.{blocks-still, Bool, cases_eq, cases_lt, core_shown, Did, did_store, each-upd}
use Rattle.vm_step.proofs.Prelude.{each-upd2, event_law, FaultsFit, get_elem?, Held, held_at, index_of, inl, inr}
use Rattle.vm_step.proofs.Prelude.{is_pending, IsPlacedAt, Kept, KnowsOwner, KnowsPage, KnowsPages, le-ltb}
use Rattle.vm_step.proofs.Prelude.{leave_others, Leaves, Legal, length, List, listed, lt-ltb, MAX_COUNT, may_call}
use Rattle.vm_step.proofs.Prelude.{MayRaise, no_held, None, Note, notes_of, Option, Origin, Page, put, put_at, Raise}
use Rattle.vm_step.proofs.Prelude.{raise-step, raised, raised_view, RaiseTold, refl, Ruled, seat_of, slice_set, some}
use Rattle.vm_step.proofs.Prelude.{Stands, Start, steps_more, Stored, subst, suc, TableShape, sym, Table, times_noted}
use Rattle.vm_step.proofs.Prelude.{told_of, total, total-set, true, upd, upd-other, upd-same, View, Works, World}
use Rattle.vm_step.proofs.Prelude.{world_after, world_of, ℕ, ⊎_elim, ◌++◌, ◌+◌, ◌<◌, ◌∙◌, ◌∷◌, ◌≡◌, ◌≢◌, ◌≤◌, ◌⊎◌}

-- ---- notes

noted-both : (p count : ℕ) (l m : List Note) → times_noted p count (l ++ m) ≡ times_noted p count l + times_noted p count m
noted-both p count [] m = omega arith
noted-both p count (n ∷ ns) m = let rest : times_noted p count (ns ++ m) ≡ times_noted p count ns + times_noted p
    count m = noted-both p count ns m in omega arith

-- what is noted at a raise is nothing, or the count, which the fault word rises to or which is the last: so of any
-- count of any page, it is not among the new notes, or is the one
noted-new : (p fault count q n : ℕ) → (times_noted q n (notes_of p fault count) ≡ 0)
    ⊎ ((times_noted q n (notes_of p fault count) ≡ 1) × (p ≡ q) × (count ≡ n)
    × ((fault < count) ⊎ (count ≡ MAX_COUNT)))
noted-new p fault count q n =
    ⊎_elim
    (λ lt. one (rw (lt-ltb fault count lt) refl) (inl lt))
    (λ le. ⊎_elim
    (λ e. one (rw (le-ltb fault count le, eq-eqb count MAX_COUNT e) refl) (inr e))
    (λ ne. inl (rw (le-ltb fault count le, ne_eqb count MAX_COUNT ne) refl))
    (cases_eq count MAX_COUNT))
    (cases_lt fault count)
  where
    one : notes_of p fault count ≡ record {
      page = p;
      count = count;
    } ∷ [] → (fault < count) ⊎ (count ≡ MAX_COUNT) → (times_noted q n (notes_of p fault count) ≡ 0)
        ⊎ ((times_noted q n (notes_of p fault count) ≡ 1) × (p ≡ q) × (count ≡ n)
        × ((fault < count) ⊎ (count ≡ MAX_COUNT)))
    one is up = ⊎_elim
        (λ (e : p ≡ q). ⊎_elim
        (λ (e' : count ≡ n). inr (ap (times_noted q n) is ∙ rw (eq-eqb p q e, eq-eqb count n e') refl, e, e', up))
        (λ (ne : count ≢ n). inl (ap (times_noted q n) is ∙ rw (eq-eqb p q e, ne_eqb count n ne) refl))
        (cases_eq count n))
        (λ (ne : p ≢ q). inl (ap (times_noted q n) is ∙ rw (ne_eqb p q ne) refl))
        (cases_eq p q)

total-none : {X : Type 0} (f : View X → ℕ) (views : List (View X))
    → ((j : ℕ) (u : View X) → get_elem? views j ≡ some u → f u ≡ 0) → total f views ≡ 0
total-none f [] k = refl
total-none f (v ∷ vs) k = let here : f v ≡ 0 = k 0 v refl in let rest : total f vs ≡ 0 =
    total-none f vs (λ j u e. k (suc j) u e) in omega arith

module _ {X B : Type 0} (stored : B → Stored) (keeps : Start → Kept X → Type 0)
    (tied : Start → ℕ → List ℕ → ℕ → List ℕ → Type 0) (start : Origin) (tells : Bool) (s : Table (Option B) (View X))
    (r : Ruled stored keeps tied start tells s) (id : ℕ) (v : View X) (there : get_elem? s.views id ≡ some v)
    (live : v.live ≡ true) where
  abbrev world : World
  world = world_of stored start r.releases r.drafts s

  abbrev page : ℕ → Page
  page p = world.core.pages p

  mine : KnowsPages tied start world (is_pending s.views) v
  mine = r.known id v there live

  pub raise-legal : (p : ℕ) → p < start.pages → may_call (seat_of v p) ≡ true → Legal (core_shown stored start s) (Raise id p)
  raise-legal p l calls = (
    record {
      actor = at-bound s.views id v there;
      page = l;
    },
    may-call stored keeps tied start tells s r id v there live p l calls,
  )

  -- the count that the pass knows is the page's
  pub count-known : (p count : ℕ) → MayRaise v p count → count ≡ (page p).count
  count-known p count may = may.is ∙ ((mine.knows p).calls may.calls).3

  abbrev pub raise-view : ℕ → ℕ → View X
  raise-view p count = after_more stored keeps tied start tells s r id v
      (slice_set s.words (index_of start (places.Fault p)) count) s.homes
      (listed start.pages (block_of stored s.homes s.views)) r.drafts [] [] (did_store (places.Fault p) count)
      (raised_view p count v)

  module _ (p count : ℕ) (l : p < start.pages) (may : MayRaise v p count) where
    abbrev fault : ℕ
    fault = (held_at v p).fault

    raise-left : Leaves id world (world_after world (Raise id p))
    raise-left = leave_others world (Raise id p) r.inv (raise-legal p l may.calls)

    -- what was noted before is at most the fault word that was
    noted-before : (j : ℕ) (u : View X) → get_elem? s.views j ≡ some u → (q n : ℕ) → 1 ≤ times_noted q n u.notes
        → (1 ≤ n) × (n ≤ ((world_after world (Raise id p)).core.pages q).fault)
    noted-before j u at q n m =
        let more : (page q).fault ≤ ((world_after world (Raise id p)).core.pages q).fault =
        (raise-left.counts q).fault (r.faults.below q) in
        let was = r.faults.noted j u at q n m in
        let below : n ≤ (page q).fault = was.1 in
        (was.0, omega arith)

    noted-after : (q n : ℕ) → 1 ≤ times_noted q n (v.notes ++ notes_of p fault count)
        → (1 ≤ n) × (n ≤ ((world_after world (Raise id p)).core.pages q).fault)
    noted-after q n m =
        let both : times_noted q n (v.notes ++ notes_of p fault count) ≡ times_noted q n v.notes + times_noted q n
        (notes_of p fault count) = noted-both q n v.notes (notes_of p fault count) in
        ⊎_elim
        (λ (z : times_noted q n (notes_of p fault count) ≡ 0). noted-before id v there q n (omega arith))
        (λ k.
        let is : count ≡ n = k.2 in
        let now : ((world_after world (Raise id p)).core.pages q).fault ≡ n =
        ap (λ m. (upd world.core.pages p (raised (page p)) m).fault) (sym k.1) ∙ ap (λ (y : Page). y.fault)
        (upd-same world.core.pages p (raised (page p))) ∙ sym (count-known p count may) ∙ is in
        (⊎_elim (λ (lt : fault < count). omega arith) (λ (e : count ≡ MAX_COUNT). omega arith) k.3, omega arith))
        (noted-new p fault count q n)

    -- a count that the fault word rises to was noted by nobody
    once-after : (q n : ℕ) → n ≢ MAX_COUNT → total (λ (y : View X). times_noted q n y.notes) (slice_set s.views id (raise-view p count)) ≤ 1
    once-after q n ne =
        let f : View X → ℕ = λ y. times_noted q n y.notes in
        let w : View X = raise-view p count in
        let new : ℕ = times_noted q n (notes_of p fault count) in
        let both : f w ≡ f v + new = noted-both q n v.notes (notes_of p fault count) in
        let sum : total f (slice_set s.views id w) + f v ≡ total f s.views + f w = total-set f s.views id v w there in
        let before : total f s.views ≤ 1 = r.faults.once q n ne in
        ⊎_elim
        (λ (z : new ≡ 0). omega arith)
        (λ k.
        let is : count ≡ n = k.2 in
        let one : new ≡ 1 = k.0 in
        let up : fault < count = ⊎_elim (λ lt. lt) (λ e. absurd (ne (sym is ∙ e))) k.3 in
        let none : total f s.views ≡ 0 = total-none f s.views (λ j u at. ⊎_elim
        (λ (le : 1 ≤ f u). absurd (
        let below : n ≤ (page q).fault = (r.faults.noted j u at q n le).1 in
        let here : fault ≡ (page q).fault = (((mine.knows p).calls may.calls).1) ∙ ap (λ m. (page m).fault) k.1 in
        omega arith))
        (λ (lt : f u < 1). omega arith)
        (⊎_elim (λ lt. inr lt) (λ le. inl le) (cases_lt (f u) 1))) in
        omega arith)
        (noted-new p fault count q n)

    raise-faults : FaultsFit (world_after world (Raise id p)).core.pages (slice_set s.views id (raise-view p count))
    raise-faults = record {
      below = λ q. (raise-left.counts q).within (r.faults.capped q) (r.faults.below q);
      capped = λ q. (raise-left.counts q).inside (r.faults.capped q);
      noted = λ j u at q n m. ⊎_elim
          (λ (t : (j ≡ id) × (raise-view p count ≡ u)). noted-after q n (subst (λ (y : View X). 1 ≤ times_noted q n y.notes) (sym t.1) m))
          (λ (t : (j ≢ id) × (get_elem? s.views j ≡ some u)). noted-before j u t.1 q n m)
          (at_set s.views id j (raise-view p count) u at);
      once = once-after;
    }

    pub raise-keeps : 0 < length v.used → Ruled stored keeps tied start tells (record {
      words = slice_set s.words (index_of start (places.Fault p)) count;
      homes = s.homes;
      views = slice_set s.views id (raise-view p count);
    }) × RaiseTold p count v (raise-view p count)
    raise-keeps number =
        let did : Did = did_store (places.Fault p) count in
        let words : List ℕ = slice_set s.words (index_of start (places.Fault p)) count in
        let blocks : List Stored = listed start.pages (block_of stored s.homes s.views) in
        let h : Held = record (held_at v p) { fault = count } in
        let w : View X = raise-view p count in
        let y : Page = raised (page p) in
        let knows = (mine.knows p).calls may.calls in
        let done = steps_more stored keeps tied start tells s r id v words s.homes blocks None r.drafts [] [] did
        (raised_view p count v) there live number refl refl
        (device-shows stored keeps tied start tells s r id v words s.homes blocks did v.out (put p h v.held)
        (v.notes ++ notes_of p fault count) (world_after world (Raise id p)).core there live
        (record {
          word = word-left start s.words did count r.wide.0 r.spelled l refl tt refl;
          slots = r.wide.1;
          core_is = ap (λ (x : World). x.core)
              (raise-step stored start s r.releases r.drafts id v w p count r.wide.0 l there refl refl refl refl
              (count-known p count may));
          inv = event_law world (Raise id p) r.inv (raise-legal p l may.calls);
          left = raise-left;
          next = refl;
          spares = refl;
          contents = refl;
          owners = each-upd (λ q (x : Held). KnowsOwner world.core.owners (seat_of v q) x) (put_at no_held v.held) p h
              (mine.owners p) (λ q _. mine.owners q);
          told = ap (listed start.pages) (block-same stored s.homes s.views id v w there refl);
          fit = blocks-still stored start s.homes s.views id v w there refl (λ o x. (r.blocks.away id v o there x).1) r.blocks;
          faults = raise-faults;
          knows = each-upd2 (λ q (x : Held) (z : Page). KnowsPage (seat_of v q) x z) (put_at no_held v.held) world.core.pages p h y
              (record { calls = λ _. (knows.0, count-known p count may, knows.2, knows.3); shares = (mine.knows p).shares })
              (λ q _. mine.knows q);
        })) in
        (done.0, record { brings = done.1 })

-- ---- the table allows it

module _ {X B : Type 0} (stored : B → Stored) (keeps : Start → Kept X → Type 0)
    (tied : Start → ℕ → List ℕ → ℕ → List ℕ → Type 0) (shape : TableShape) (tells : Bool) where
  pub raise-allows : (slots id : ℕ) (v : View X) (i : ℕ) (p count : ℕ) → v.live ≡ true → 0 < length v.used
      → p < shape.pages → MayRaise v p count → IsPlacedAt shape (places.Fault p) i
      → AllowsStep (Stands stored keeps tied shape tells) slots id v i (λ _. count) (told_of shape tells (λ _. RaiseTold p count))
  raise-allows slots id v i p count live number l may is =
      allows stored keeps tied shape tells slots id v i (places.Fault p) (λ _. count) (λ _. count)
      (λ _. RaiseTold p count) live is (λ _ _. tt) (λ n. refl) (λ n w t. fit t.brings live number)
      (λ start has s r there _.
      let k = raise-keeps stored keeps tied start tells s r id v there live p count (subst (λ n. p < n) (sym has.pages) l) may number in
      (raise-view stored keeps tied start tells s r id v there live p count, k.0, k.1))

module _ {X : Type 0} {p count : ℕ} {v w : View X} (t : RaiseTold p count v w) where
  pub raise-works : Works p (did_store (places.Fault p) count ∷ []) v w
  raise-works = works-one p (did_store (places.Fault p) count) None v _ v.frames v.contents v.out _ w
      (λ q ne. upd-other (put_at no_held v.held) p _ q ne) t.brings

  pub raise-held : held_at w p ≡ record (held_at v p) { fault = count }
  raise-held = ap (λ (x : View X). held_at x p) t.brings.view ∙ upd-same (put_at no_held v.held) p _
