-- The page was found evicted and locked, and its block was read: it is installed with the block's words and released,
-- or released as evicted.
use Rattle.vm_event.specs.Fn as fns
use Rattle.vm_fault.proofs.Ending.{both-within, brought-at, brought-once, brought-silent, EndsAs, evicted-ends}
use Rattle.vm_fault.proofs.Ending.{failed-at, failed-once, failed-silent, IsHeldEmpty, page-within, still-draft}
use Rattle.vm_fault.proofs.Ending.{still-free, still-last, still-owns, still-paid, unlocked-ends}
use Rattle.vm_supply.specs.from_vm_step.steps_Owner.{OwnerTold}
use Rattle.vm_supply.proofs.from_vm_step.steps_Owner.{settle-did, settle-frames, settle-held, settle-notes, settle-out, settle-works}
use Rattle.vm_supply.proofs.from_vm_step.steps_Owner.{stands-installed}
use Rattle.vm_supply.specs.from_vm_rule.Prelude.{StandsIn}
use Rattle.vm_fault.proofs.Prelude.{[], all-stored, ap, append_assoc, arith, Bool, call-did, called, Change, clean_in}
use Rattle.vm_fault.proofs.Prelude.{count_more, counts-one, Did, did_store, Each, Entry, Err, EVICTED, EvictTold}
use Rattle.vm_fault.proofs.Prelude.{false, filled, fills, Fills, goes-out, has, HasWritten, Held, held_at, HomeTold}
use Rattle.vm_fault.proofs.Prelude.{if◌then◌else◌, inl, InstallTold, is_ok, IsBrought, IsFailed, IsFirst, IsMember}
use Rattle.vm_fault.proofs.Prelude.{IsNotOut, IsOfBoth, IsOfPage, IsSome, length, List, MAX_VERSION, may-bring}
use Rattle.vm_fault.proofs.Prelude.{MayBring, MayEvict, MayGiveUp, MayPutInto, MayRaise, MayTakeOut, Moves, no_held}
use Rattle.vm_fault.proofs.Prelude.{None, none-some, noted-more, notes_of, Ok, OnOk, or_left, Origin, out_at, OutTold}
use Rattle.vm_fault.proofs.Prelude.{put_at, raise-held, raise-works, WordPlace, RaiseTold, Reads, refl, ReleaseTold}
use Rattle.vm_fault.proofs.Prelude.{Result, rules, Seat, seat_of, slice_index, Some, Start, Stored, Stores}
use Rattle.vm_fault.proofs.Prelude.{stores-did, subst, sym, trans_word, true, two-loads, UNLOCKED, Version, View}
use Rattle.vm_fault.proofs.Prelude.{without, word_of, Works, works-then, written-behind, written-front, ℕ, ◌++◌, ◌+◌}
use Rattle.vm_fault.proofs.Prelude.{◌<◌, ◌∙◌, ◌∷◌, ◌≡◌, ◌≤◌}

module _ {X : Type 0} (p version : ℕ) (words : List ℕ) (before : List Did) (v x : View X) (h : IsHeldEmpty p version words before v x) where
  -- the block may be taken out
  pub may-take-out : x.out ≡ None → MayTakeOut x p
  may-take-out none = record { calls = or_left (seat_of x p).exclusive (seat_of x p).writing h.owns; none = none }

  -- the block was taken out, read into a page, and brought home
  module _ {E : Type 0} (old new : Stored) (a d : View X) (o : OutTold p old x a) (size : ℕ)
      (sized : size ≡ x.start.size) (some : 0 < size) (tells : Bool) (telling : x.start.tells ≡ tells) (page : List ℕ)
      (result : Result (Unit {0}) E) (read : Reads size tells old new page result)
      (home : (b : Stored) → MayBring a p b new → HomeTold p b new a d) where
    gone : Moves p (two-loads p o.first o.second) (held_at x p) (Some (out_at p false old)) x a
    gone = goes-out p old x a o

    pub may-come-home : MayBring a p old new
    may-come-home = may-bring p size tells a old new page
        (ap (λ (y : Origin). y.tells) gone.works.leaves.start ∙ telling)
        (ap (λ (s : Seat). s.exclusive) gone.works.seat ∙ h.owns) result read gone.away

    pub m : HomeTold p old new a d
    m = home old may-come-home

    abbrev called-did : List Did
    called-did = call-did p old new x a d o m

    abbrev held-called : Held
    held-called = record (held_at x p) { block = new }

    moved : Moves p called-did held-called None x d
    moved = called p old new x a d o m

    pub frames-called : d.frames ≡ x.frames
    frames-called = moved.keeps.frames

    -- the block had the page's words
    had-words : x.start.tells ≡ true → old.words ≡ words
    had-words tells = o.slot.block.words ∙ h.device tells

    -- nothing is out at a view that has out what this one has
    not-out : (y : View X) → y.out ≡ None → IsNotOut y p
    not-out y e b is = absurd (none-some b (sym e ∙ is))

    -- ---- the read answered

    module _ (u : Unit {0}) (ok : result ≡ Ok u) where
      count-same : new.count ≡ old.count
      count-same = read.count ∙ ap (λ (y : Result (Unit {0}) E). if is_ok y then old.count else count_more old.count) ok

      pub long : length page ≡ size
      long = subst (λ (y : Result (Unit {0}) E). OnOk y (length page ≡ size)) ok read.whole

      given : x.start.tells ≡ true → page ≡ old.words
      given t = subst (λ (y : Result (Unit {0}) E). OnOk y (page ≡ old.words)) ok (read.given (sym telling ∙ t))

      same : x.start.tells ≡ true → new.words ≡ old.words
      same t = read.held (sym telling ∙ t)

    module _ (u : Unit {0}) (ok : result ≡ Ok u) (f : ℕ) (holds : has f x.frames ≡ true) (e : View X) (s : Stores f 0 page d e) where
      filled-as : Fills f p (stores-did f 0 page) d e
      filled-as = fills f p 0 page d e s

      abbrev filled-did : List Did
      filled-did = called-did ++ stores-did f 0 page

      work-filled : Works p filled-did x e
      work-filled = works-then p called-did (stores-did f 0 page) x d e moved.works filled-as.works

      held-filled : held_at e p ≡ held-called
      held-filled = ap (λ l. put_at no_held l p) filled-as.held ∙ moved.known

      empty-then : (held_at e p).mapping ≡ None
      empty-then = ap (λ (y : Held). y.mapping) held-filled ∙ h.empty

      pub may-put : MayPutInto e p f
      may-put =
          let loaded = λ (tells : e.start.tells ≡ true).
          let told : x.start.tells ≡ true = ap (λ (y : Origin). y.tells) (sym work-filled.leaves.start) ∙ tells in
          filled f page d e (long u ok ∙ sized ∙ ap (λ (y : Origin). y.size) (sym moved.works.leaves.start))
          (subst (λ n. 0 < n) (sym (long u ok)) some) s ∙ given u ok told ∙ sym (same u ok told)
          ∙ ap (λ (y : Held). y.block.words) (sym held-filled) in
          search (
            rules,
            still-owns p version words before filled-did v x e h work-filled,
            empty-then,
            ap (has f) (filled-as.frames ∙ moved.keeps.frames) ∙ holds,
            loaded,
          )

      pub may-own : (i : View X) → InstallTold p f e i → StandsIn i p f
      may-own i t = stands-installed may-put.owns t

      module _ (j : View X) (t : InstallTold p f e j) (i : View X) (named : OwnerTold p f (p + 1) j i) where
        abbrev worked-did : List Did
        worked-did = filled-did ++ settle-did t named

        work-installed : Works p worked-did x i
        work-installed = works-then p filled-did (settle-did t named) x e i work-filled (settle-works t named)

        held-installed : held_at i p ≡ record held-called { mapping = Some (clean_in f); owner = p + 1 }
        held-installed = settle-held t named ∙ ap (λ (y : Held). record y { mapping = Some (clean_in f); owner = p + 1 }) held-filled

        out-installed : i.out ≡ None
        out-installed = settle-out t named ∙ filled-as.out ∙ moved.away

        -- the page's words are those that it had, and it is owed to nobody
        pub may-give_up : (may_release : Start → List ℕ → List Change → List (Entry X) → Type 0) → p < x.start.pages
            → MayGiveUp may_release p version [] None i
        may-give_up may_release inside =
            let owns = still-owns p version words before worked-did v x i h work-installed in
            let last = still-last p version words before worked-did v x i h work-installed in
            let unchanged = still-draft p version words before worked-did v x i h work-installed
            ∙ ap (λ (y : Version). y.words) (sym last) in
            let member : IsMember i p = record {
              page = subst (λ (y : Origin). p < y.pages) (sym work-installed.leaves.start) inside;
              owns = owns;
              free = still-free p version words before worked-did v x i h work-installed;
              claimed = λ tells. inl unchanged;
            } in
            let first : IsFirst may_release p [] None i = record {
              members = (member, tt);
              apart = (refl, tt);
              few = omega arith;
              owner = λ tells. inl (refl, (unchanged, still-paid p version words before worked-did v x i h work-installed, tt));
            } in
            search (
              rules,
              ap,
              owns,
              subst (λ (y : Held). IsSome y.mapping) (sym held-installed) refl,
              held-installed,
              subst (λ (y : Held). y.fault ≡ y.block.count) (sym held-installed)
                  (h.told ∙ sym o.slot.block.count ∙ sym (count-same u ok)),
              not-out i out-installed,
              ap (λ (y : Version). y.version) (sym last),
              first,
            )

        module _ (below : version < MAX_VERSION) (none : x.out ≡ None) (w : View X)
            (r : ReleaseTold p version [] None i w) (inside : p < x.start.pages) (frame : f < x.start.frames) where
          abbrev end-did : Did
          end-did = did_store (WordPlace.State p) (version + 1)

          ends : EndsAs p version words before worked-did v x i h work-installed UNLOCKED ((before ++ worked-did) ++ end-did ∷ []) w
          ends = unlocked-ends p version words before worked-did v x i h work-installed
              (brought-silent p before h.steps o.first o.second m.first m.second size f
              (trans_word (Some (clean_in f))) (p + 1) (version + 1) page (long u ok)) below w r

          size-v : size ≡ v.start.size
          size-v = sized ∙ ap (λ (y : Origin). y.size) h.leaves.start

          steps-are : Each (λ (d : Did). IsOfBoth v.start.size p f d.at) ((before ++ worked-did) ++ end-did ∷ [])
          steps-are = brought-at p before h.steps o.first o.second m.first m.second v.start.size f
              (trans_word (Some (clean_in f))) (p + 1) (version + 1) page (long u ok ∙ size-v)

          pub brought : IsBrought p f v w
          brought =
              let did : List Did = (before ++ worked-did) ++ end-did ∷ [] in
              let trans : ℕ = trans_word (Some (clean_in f)) in
              let inside-v = both-within v.start p f (subst (λ (y : Origin). p < y.pages) h.leaves.start inside)
              (subst (λ (y : Origin). f < y.frames) h.leaves.start frame) in
              let put : HasWritten worked-did (WordPlace.Translation p) trans = record {
                earlier = filled-did;
                step = did_store (WordPlace.Translation p) trans;
                later = did_store (WordPlace.Owner f) (p + 1) ∷ [];
                cut = refl;
                place = refl;
                wrote = refl;
              } in
              let owner : HasWritten worked-did (WordPlace.Owner f) (p + 1) = record {
                earlier = filled-did ++ did_store (WordPlace.Translation p) trans ∷ [];
                step = did_store (WordPlace.Owner f) (p + 1);
                later = [];
                cut = sym (append_assoc filled-did (did_store (WordPlace.Translation p) trans ∷ [])
                    (did_store (WordPlace.Owner f) (p + 1) ∷ []));
                place = refl;
                wrote = refl;
              } in
              let within : (at : WordPlace) (n : ℕ) → HasWritten worked-did at n → HasWritten did at n = λ at n w.
              written-front (before ++ worked-did) (end-did ∷ []) at n
              (written-behind before worked-did at n w) in
              let stored = λ (tells : v.start.tells ≡ true) (k : ℕ) (l : k < v.start.size).
              let told : x.start.tells ≡ true = ap (λ (y : Origin). y.tells) h.leaves.start ∙ tells in
              subst (λ (ws : List ℕ). HasWritten did (WordPlace.Content f k) (slice_index ws k)) (given u ok told ∙ had-words told)
              (within (WordPlace.Content f k) (slice_index page k)
              (written-front filled-did (settle-did t named) (WordPlace.Content f k) (slice_index page k)
              (written-behind called-did (stores-did f 0 page) (WordPlace.Content f k) (slice_index page k)
              (all-stored f page k (subst (λ n. k < n) (sym (long u ok ∙ size-v)) l))))) in
              let frames = ap (λ (y : View X). y.frames) r.brings.view ∙ settle-frames t named
              ∙ ap (without f) (filled-as.frames ∙ moved.keeps.frames ∙ h.keeps.frames) in
              let notes = ap (λ (y : View X). y.notes) r.brings.view ∙ settle-notes t named ∙ filled-as.notes
              ∙ moved.keeps.notes ∙ h.keeps.notes in
              let once = brought-once p before h.steps o.first o.second m.first m.second v.start.size f trans (p + 1)
              (version + 1) page (long u ok ∙ size-v) in
              search (
                rules,
                ends.aside (out-installed ∙ sym none ∙ h.out),
                ends.released,
                steps-are,
                once,
                ends.runs,
                ends.knows (IsOfBoth v.start.size p f) inside-v steps-are,
                within (WordPlace.Translation p) trans
                    put,
                within (WordPlace.Owner f) (p + 1) owner,
                stored,
                frames,
                notes,
              )

    -- ---- the read failed

    pub may-raise : (n : ℕ) → n ≡ new.count → MayRaise d p n
    may-raise n is = record {
      calls = or_left (seat_of d p).exclusive (seat_of d p).writing (still-owns p version words before called-did v x d h moved.works);
      is = is ∙ ap (λ (y : Held). y.block.count) (sym moved.known);
    }

    module _ (n : ℕ) (is : n ≡ new.count) (y : View X) (t : RaiseTold p n d y) where
      abbrev raise-did : Did
      raise-did = did_store (WordPlace.Fault p) n

      abbrev raised-did : List Did
      raised-did = called-did ++ raise-did ∷ []

      pub work-raised : Works p raised-did x y
      work-raised = works-then p called-did (raise-did ∷ []) x d y moved.works (raise-works t)

      held-raised : held_at y p ≡ record held-called { fault = n }
      held-raised = raise-held t ∙ ap (λ (z : Held). record z { fault = n }) moved.known

      out-raised : y.out ≡ None
      out-raised = ap (λ (z : View X). z.out) t.brings.view ∙ moved.away

      pub may-evict : MayEvict y p version
      may-evict =
          let last = still-last p version words before raised-did v x y h work-raised in
          search (
            rules,
            ap,
            still-owns p version words before raised-did v x y h work-raised,
            held-raised,
            h.empty,
            not-out y out-raised,
            last,
            still-free p version words before raised-did v x y h work-raised,
            still-paid p version words before raised-did v x y h work-raised,
          )

      module _ (u : E) (err : result ≡ Err u) (bounded : new.count ≤ new.bound) (below : version < MAX_VERSION)
          (none : x.out ≡ None) (w : View X) (r : EvictTold p version y w) (inside : p < x.start.pages) where
        abbrev evict-did : Did
        evict-did = did_store (WordPlace.State p) (word_of EVICTED (version + 1))

        count : new.count ≡ count_more old.count
        count = read.count ∙ ap (λ (z : Result (Unit {0}) E). if is_ok z then old.count else count_more old.count) err

        -- the count is what the block's bound allows
        allowed : (1 ≤ n) × (n ≤ fns.at 0 v.start.bounds p)
        allowed =
            let bound : new.bound ≡ fns.at 0 v.start.bounds p = read.bound ∙ o.slot.block.bound
            ∙ ap (λ (z : Origin). fns.at 0 z.bounds p) h.leaves.start in
            let raised : 1 ≤ count_more old.count = counts-one old.count in
            let counted : n ≡ count_more old.count = is ∙ count in
            (omega (arith, raised, counted), omega (arith, is, bounded, bound))

        -- the fault word was the count before
        noted-once : notes_of p (held_at d p).fault n ≡ record { page = p; count = n } ∷ []
        noted-once =
            let fault : (held_at d p).fault ≡ old.count = ap (λ (z : Held). z.fault) moved.known ∙ h.told ∙ sym o.slot.block.count in
            subst (λ (k : ℕ). notes_of p k n ≡ record { page = p; count = n } ∷ []) (sym fault)
            (subst (λ (k : ℕ). notes_of p old.count k ≡ record { page = p; count = k } ∷ []) (sym (is ∙ count)) (noted-more p old.count))

        evicts : EndsAs p version words before raised-did v x y h work-raised EVICTED ((before ++ raised-did) ++ evict-did ∷ []) w
        evicts = evicted-ends p version words before raised-did v x y h work-raised
            (failed-silent p before h.steps o.first o.second m.first m.second n (word_of EVICTED (version + 1))) below
            w r

        steps-of : Each (λ (d : Did). IsOfPage p d.at) ((before ++ raised-did) ++ evict-did ∷ [])
        steps-of = failed-at p before h.steps o.first o.second m.first m.second n (word_of EVICTED (version + 1))

        pub failed : IsFailed p n v w
        failed =
            let inside-v = page-within v.start p (subst (λ (y : Origin). p < y.pages) h.leaves.start inside) in
            let written : HasWritten raised-did (WordPlace.Fault p) n = record {
              earlier = called-did;
              step = raise-did;
              later = [];
              cut = refl;
              place = refl;
              wrote = refl;
            } in
            let raised = written-front (before ++ raised-did) (evict-did ∷ []) (WordPlace.Fault p) n
            (written-behind before raised-did (WordPlace.Fault p) n written) in
            let noted =
            ap (λ (z : View X). z.notes) r.brings.view
            ∙ ap (λ (z : View X). z.notes) t.brings.view
            ∙ ap (λ l. d.notes ++ l) noted-once
            ∙ ap (λ l. l ++ record { page = p; count = n } ∷ []) (moved.keeps.notes ∙ h.keeps.notes) in
            let frames = ap (λ (z : View X). z.frames) r.brings.view ∙ ap (λ (z : View X). z.frames) t.brings.view
            ∙ moved.keeps.frames ∙ h.keeps.frames in
            let contents = ap (λ (z : View X). z.contents) r.brings.view ∙ ap (λ (z : View X). z.contents)
            t.brings.view ∙ moved.keeps.contents ∙ h.keeps.contents in
            search (
              rules,
              evicts.aside (out-raised ∙ sym none ∙ h.out),
              evicts.released,
              steps-of,
              failed-once p before h.steps o.first o.second m.first m.second n (word_of EVICTED (version + 1)),
              evicts.runs,
              evicts.knows (IsOfPage p) inside-v steps-of,
              raised,
              noted,
              allowed,
              frames,
              contents,
            )
