-- A page is written back: its words are copied from its frame and written to its block, by the lock that the pass has for that.
use Rattle.vm_rule.specs.declared.view.WordPlace.TheVariants as places
use Rattle.vm_supply.proofs.from_vm_step.Device.{Moves}
use Rattle.vm_evict.proofs.Evidenced.{no-mapping, none-silent}
use Rattle.vm_evict.proofs.Prelude.{[], ap, arith, at, Bool, cases_eq, clean-held, clean-works, clean_in, cleans}
use Rattle.vm_evict.proofs.Prelude.{CleanTold, comes-home, cond-false, CopiesWords, count_more, counts-one, Did}
use Rattle.vm_evict.proofs.Prelude.{did_load, did_store, dirty_in, draft_of, Each, each-both, each-map, EndsWrite}
use Rattle.vm_evict.proofs.Prelude.{Err, ext_get_or, false, frame_of, frame_read_by, get_or-set_other}
use Rattle.vm_evict.proofs.Prelude.{get_or-set_same, goes-once, goes-out, GoesOnce, HasGiven, Held, held_at}
use Rattle.vm_evict.proofs.Prelude.{home-else, HomeTold, if◌then◌else◌, inl, inr, is_ok, is_some, IsAllowed, IsCopied}
use Rattle.vm_evict.proofs.Prelude.{IsFoundDirty, IsFoundToWrite, IsFrameLoad, IsLeftDirty, IsOfPage, IsOwnPlace}
use Rattle.vm_evict.proofs.Prelude.{IsSavedNow, IsSome, IsStillLocked, IsToldOf, IsUnderWriteBack, IsWritten}
use Rattle.vm_evict.proofs.Prelude.{keeps-self, keeps-then, KeepsFrames, KnowsClean, last_of, length, length-set}
use Rattle.vm_evict.proofs.Prelude.{List, load-works, LoadTold, Mapping, mapping-clean, mapping_of, may-bring-written}
use Rattle.vm_evict.proofs.Prelude.{may_call, MayBring, MayRaise, MayTakeOut, nat_lt, no-fault, None, noted-more}
use Rattle.vm_evict.proofs.Prelude.{notes_of, Ok, once-behind, open_frame, Option, or_right, Origin, out_at, OutTold}
use Rattle.vm_evict.proofs.Prelude.{raise-held, raise-works, raises, RaiseTold, reads, refl, Result, rules, Seat}
use Rattle.vm_evict.proofs.Prelude.{seat_of, slice_index, slice_set, Some, stands_dirty, StaysHome, StaysOn, Stored}
use Rattle.vm_evict.proofs.Prelude.{subst, sym, tload-works, trans_word, Translation, translation_of, TranslationTold}
use Rattle.vm_evict.proofs.Prelude.{true, two-loads, Version, View, words_held, Works, works-none, works-then, Writes}
use Rattle.vm_evict.proofs.Prelude.{WritesNone, WritesPage, writing_seat, ℕ, ⊎_elim, ◌&&◌, ◌++◌, ◌+◌, ◌<◌, ◌^◌, ◌||◌}
use Rattle.vm_evict.proofs.Prelude.{◌∙◌, ◌∷◌, ◌≡◌, ◌≢◌, ◌≤◌}
use Rattle.vm_evict.proofs.Tables.{found-first, kept-at, left-at, left-last}

pub written-own : (p : ℕ) (d : Did) → WritesPage p d → IsOwnPlace p d.at
written-own p d (reads own none quiet) = own
written-own p d (cleans frame is) = inl (subst (λ (e : Did). IsOfPage p e.at) (sym is) refl)
written-own p d (raises count is) = inl (subst (λ (e : Did). IsOfPage p e.at) (sym is) refl)

-- the steps of a write-back are on words of the page, and write no state word
pub stays-on : (p : ℕ) (done : List Did) → Each (WritesPage p) done → StaysOn p done
stays-on p done e = each-map (WritesPage p) (λ d. IsOwnPlace p d.at) (written-own p) done e

state-unwritten : (p : ℕ) (d : Did) → WritesPage p d → d.at ≡ places.State p → d.wrote ≡ None
state-unwritten p d (reads own none quiet) here = quiet
state-unwritten p d (cleans frame is) here = (let no : places.Translation p ≡ places.State p = sym (ap (λ (e : Did). e.at) is) ∙ here in cc)
state-unwritten p d (raises count is) here = (let no : places.Fault p ≡ places.State p = sym (ap (λ (e : Did). e.at) is) ∙ here in cc)

pub no-state-written : (p : ℕ) (done : List Did) → Each (WritesPage p) done → WritesNone (places.State p) done
no-state-written p done e = each-map (WritesPage p) (λ d. d.at ≡ places.State p → d.wrote ≡ None) (state-unwritten p) done e

-- the frame that is read, by the seat and by what is known of the page
abbrev frame-by : Seat → Held → Option ℕ
frame-by s h = if (s.exclusive || nat_lt 0 s.shares) && is_some h.mapping then frame_of h.mapping else open_frame s.reading

module _ {X : Type 0} (p : ℕ) where
  pub reads-same : (v w : View X) → seat_of w p ≡ seat_of v p → held_at w p ≡ held_at v p → frame_read_by w p ≡ frame_read_by v p
  reads-same v w s h = ap (λ (t : Seat). frame-by t (held_at w p)) s ∙ ap (λ (k : Held). frame-by (seat_of v p) k) h

  -- the words below i were loaded
  pub record Copies (i : ℕ) (page : List ℕ) (v w : View X) : Type 0 where
    pub from : CopiesWords p v w
    pub long : length page ≡ v.start.size
    pub front : v.start.tells ≡ true → (k : ℕ) → k < i → slice_index page k ≡ slice_index (last_of v p).words k

  pub copies-none : (page : List ℕ) (v : View X) → length page ≡ v.start.size → Copies 0 page v v
  copies-none page v long = record {
    from = record { done = []; works = works-none p v; loads = tt; reads = refl; held = refl; keeps = keeps-self v; out = refl };
    long = long;
    front = λ tells k l. absurd (omega (arith, l));
  }

  pub copies-more : (f i found : ℕ) (page : List ℕ) (u v w : View X) → Copies i page u v → 1 ≤ (seat_of u p).shares
      → (seat_of u p).reading ≡ None → i < u.start.size → LoadTold p f i found v w
      → Copies (i + 1) (slice_set page i found) u w
  copies-more f i found page u v w c shared closed below t =
      let s = c.from in
      let still : 1 ≤ (seat_of v p).shares = subst (λ s. 1 ≤ s.shares) (sym s.works.seat) shared in
      let shut : (seat_of v p).reading ≡ None = ap (λ s. s.reading) s.works.seat ∙ closed in
      let did : Did = did_load (places.Content f i) found in
      let long : length page ≡ u.start.size = c.long in
      record {
        from = search (
          rules,
          ap,
          works-then p s.done (did ∷ []) u v w s.works (load-works t shut),
          each-both IsFrameLoad s.done (did ∷ []) s.loads ((f, i, found, refl), tt),
          s.keeps,
          t.brings.view,
        );
        long = length-set page i found ∙ long;
        front = λ tells k l.
            let told : v.start.tells ≡ true = ap (λ (o : Origin). o.tells) s.works.leaves.start ∙ tells in
            ⊎_elim
            (λ (e : k ≡ i).
            subst (λ (n : ℕ). slice_index (slice_set page i found) n ≡ slice_index (last_of u p).words n) (sym e)
            (get_or-set_same page i found 0 (omega (arith, below, long)) ∙ t.shared told still
            ∙ ap (λ (x : Version). slice_index x.words i) (s.works.last (inr shared))))
            (λ (ne : k ≢ i). get_or-set_other page i k found 0 ne ∙ c.front tells k (omega (arith, l, ne)))
            (cases_eq k i);
      }

  -- all words were loaded
  pub copied : (i : ℕ) (page : List ℕ) (v w : View X) → i ≡ v.start.size → length (last_of v p).words ≡ v.start.size
      → Copies i page v w → IsCopied p page v w
  copied i page v w all size c = record {
    from = c.from;
    same = λ tells. ext_get_or 0 page (last_of v p).words (c.long ∙ sym size)
        (λ k l. c.front tells k (let long : length page ≡ v.start.size = c.long in omega (arith, l, long, all)));
  }

-- ---- The write-back of a page: where a load finds it dirty its block is taken out, its words are copied from its
-- frame and written, and the block is brought
-- home; then the page is made clean, or the fault is noted.

module _ {X : Type 0} (p found : ℕ) (v w : View X) (r : IsUnderWriteBack p v) (t : TranslationTold p found v w) where
  abbrev load-did : Did
  load-did = did_load (places.Translation p) found

  held-same : held_at w p ≡ held_at v p
  held-same = ap (λ (x : View X). held_at x p) t.brings.view

  -- the word is exact
  said : mapping_of found ≡ (held_at v p).mapping
  said = t.called (ap (λ (x : Seat). may_call x) r.seat)

  notes-same : w.notes ≡ v.notes
  notes-same = ap (λ (x : View X). x.notes) t.brings.view

  first : IsStillLocked p (load-did ∷ []) v w
  first =
      let reads-none : w.translations ≡ v.translations = ap (λ (x : View X). x.translations) t.brings.view
      ∙ ap (λ (s : Seat). translation_of p found s.reading ++ v.translations) r.seat in
      search (rules, ap, tload-works t (ap (λ (s : Seat). s.reading) r.seat), reads, reads-none, held-same)

  pub ends-clean : stands_dirty (mapping_of found) ≡ false → EndsWrite p v w (Ok false)
  ends-clean e =
      let given : HasGiven (load-did ∷ []) (places.Translation p) found = record {
        earlier = [];
        step = load-did;
        later = [];
        cut = refl;
        gives = (refl, refl);
      } in
      let known : KnowsClean p v w = λ a page.
      let there = found-first load-did [] [] v w first.works.alone a found refl in
      let kept = kept-at (load-did ∷ []) [] v w first.works.leaves.start first.works.alone a (places.Translation p)
      page ((λ here. refl), tt) in
      ap (λ (n : ℕ). stands_dirty (mapping_of n)) (kept ∙ sym there) ∙ e in
      search (rules, ap, first, no-fault p load-did refl, given, e, said, held-same, known, notes-same)

module _ {X : Type 0} (p f : ℕ) (v0 v : View X) (x : IsFoundToWrite p f v0 v) where
  abbrev load-of : Did
  load-of = did_load (places.Translation p) x.word

  loaded : IsStillLocked p (load-of ∷ []) v0 v
  loaded = first p x.word v0 v x.under x.load

  seat-is : seat_of v p ≡ writing_seat
  seat-is = loaded.works.seat ∙ x.under.seat

  shares : 1 ≤ (seat_of v p).shares
  shares = subst (λ (s : Seat). 1 ≤ s.shares) (sym seat-is) (omega arith)

  stands : (held_at v p).mapping ≡ Some (dirty_in f)
  stands = ap (λ (h : Held). h.mapping) (held-same p x.word v0 v x.under x.load) ∙ sym (said p x.word v0 v x.under x.load) ∙ x.dirty

  abbrev found-dirty : (later : List Did) → IsFoundDirty p f (load-of ∷ later)
  found-dirty later = (x.word, record { earlier = []; step = load-of; later = later; cut = refl; gives = (refl, refl) }, x.dirty)

  pub may-take-out : MayTakeOut v p
  may-take-out = record {
    calls = or_right (seat_of v p).exclusive (seat_of v p).writing (ap (λ (s : Seat). s.writing) seat-is);
    none = loaded.home;
  }

  module _ (old : Stored) (a : View X) (o : OutTold p old v a) where
    abbrev out-did : List Did
    out-did = two-loads p o.first o.second

    pub gone : Moves p out-did (held_at v p) (Some (out_at p false old)) v a
    gone = goes-out p old v a o

    pub copies-frame : frame_read_by a p ≡ Some f
    copies-frame = reads-same p v a gone.works.seat gone.known ∙ ap (λ (s : Seat). frame-by s (held_at v p)) seat-is
        ∙ ap (λ (m : Option Mapping). frame-by writing_seat (record (held_at v p) { mapping = m })) stands

    pub copies-shared : (1 ≤ (seat_of a p).shares) × ((seat_of a p).reading ≡ None)
    copies-shared = (
      subst (λ (s : Seat). 1 ≤ s.shares) (sym gone.works.seat) shares,
      ap (λ (s : Seat). s.reading)
          gone.works.seat ∙ ap (λ (s : Seat). s.reading) seat-is,
    )

    pub copies-size : length (last_of a p).words ≡ a.start.size
    copies-size = ap (λ (x : Version). length x.words) (gone.works.last (inr shares))
        ∙ ap (λ (y : Version). length y.words)
        (loaded.works.last (inr (subst (λ (s : Seat). 1 ≤ s.shares) (sym x.under.seat) (omega arith)))) ∙ x.under.size
        ∙ ap (λ (o : Origin). o.size) (sym (gone.works.leaves.start ∙ loaded.works.leaves.start))

    module _ (page : List ℕ) (b : View X) (k : IsCopied p page a b) where
      abbrev copied-did : List Did
      copied-did = out-did ++ k.from.done

      work-copied : Works p copied-did v b
      work-copied = works-then p out-did k.from.done v a b gone.works k.from.works

      held-copied : held_at b p ≡ held_at v p
      held-copied = k.from.held ∙ gone.known

      -- the page has the words that stand in its frame
      page-is : v.start.tells ≡ true → page ≡ (last_of v p).words
      page-is tells = k.same (ap (λ (s : Origin). s.tells) gone.works.leaves.start ∙ tells)
          ∙ ap (λ (x : Version). x.words) (gone.works.last (inr shares))

      page-held : b.start.tells ≡ true → page ≡ words_held b p
      page-held tells =
          page-is (sym (ap (λ (s : Origin). s.tells) work-copied.leaves.start) ∙ tells)
          ∙ ap (λ (x : Version). x.words) (sym (work-copied.last (inr shares)))
          ∙ sym (cond-false (seat_of b p).exclusive (draft_of b p) (last_of b p).words
          (ap (λ (s : Seat). s.exclusive) work-copied.seat ∙ ap (λ (s : Seat). s.exclusive) seat-is))

      module _ {E : Type 0} (tells : Bool) (telling : v.start.tells ≡ tells) (new : Stored)
          (result : Result (Unit {0}) E) (write : Writes tells old new page result) where
        pub may-come-home : MayBring b p old new
        may-come-home =
            may-bring-written p tells b old new page (ap (λ (s : Origin). s.tells) work-copied.leaves.start ∙ telling) result write
            (subst (λ (h : Held). IsSome h.mapping) (sym held-copied)
            (subst (λ (m : Option Mapping). IsSome m) (sym stands) refl)) page-held (k.from.out ∙ gone.away)

        module _ (d : View X) (home : (x : Stored) → MayBring b p x new → HomeTold p x new b d) where
          abbrev pub m : HomeTold p old new b d
          m = home old may-come-home

          abbrev home-did : List Did
          home-did = two-loads p m.first m.second

          abbrev called-did : List Did
          called-did = copied-did ++ home-did

          back : Moves p home-did (record (held_at b p) { block = new }) None b d
          back = comes-home p old new b d m

          work-called : Works p called-did v d
          work-called = works-then p copied-did home-did v b d work-copied back.works

          abbrev held-called : Held
          held-called = record (held_at v p) { block = new }

          held-is : held_at d p ≡ held-called
          held-is = back.known ∙ ap (λ (h : Held). record h { block = new }) held-copied

          silent-called : Each (λ d. d.wrote ≡ None) called-did
          silent-called =
              each-both (λ (d : Did). d.wrote ≡ None) copied-did home-did
              (each-both (λ (d : Did). d.wrote ≡ None) out-did k.from.done (refl, (refl, tt))
              (each-map IsFrameLoad _ (λ d l. ap (λ (x : Did). x.wrote) l.3) k.from.done k.from.loads))
              (refl, (refl, tt))

          -- the copy moves no block
          once-called : (later : List Did) → StaysHome p later → GoesOnce p (load-of ∷ (called-did ++ later))
          once-called later home =
              let stay : StaysHome p k.from.done =
              home-else p k.from.done
              (each-map IsFrameLoad _
              (λ d l here. (let no : places.Content l.0 l.1 ≡ places.Fault p = sym (ap (λ (x : Did). x.at) l.3)
              ∙ here in cc)) k.from.done k.from.loads) in
              once-behind p (load-of ∷ []) (called-did ++ later) (no-fault p load-of refl, tt)
              (goes-once p o.first o.second m.first m.second k.from.done later stay home)

          does-called : Each (WritesPage p) called-did
          does-called =
              let copies = each-map IsFrameLoad (WritesPage p)
              (λ d l. reads (inr (l.0, l.1, ap (λ (x : Did). x.at) l.3)) (ap (λ (x : Did). x.expects) l.3)
              (ap (λ (x : Did). x.wrote) l.3)) k.from.done k.from.loads in
              each-both (WritesPage p) copied-did home-did
              (each-both (WritesPage p) out-did k.from.done
              (reads (inl refl) refl refl, (reads (inl refl) refl refl, tt)) copies)
              (reads (inl refl) refl refl, (reads (inl refl) refl refl, tt))

          reads-called : d.translations ≡ v.translations
          reads-called =
              let seen : View X → List Translation = λ y. y.translations in
              ap seen m.back.brings.view ∙ ap seen m.shift.brings.view ∙ k.from.reads ∙ ap seen o.shift.brings.view
              ∙ ap seen o.slot.brings.view

          keeps-called : KeepsFrames v d
          keeps-called = keeps-then v b d (keeps-then v a b gone.keeps k.from.keeps) back.keeps

          writes-called : (seat_of d p).writing ≡ true
          writes-called = ap (λ (s : Seat). s.writing) work-called.seat ∙ ap (λ (s : Seat). s.writing) seat-is

          -- one step more, which keeps the page locked
          locked-end : (did : Did) (w : View X) → Works p (did ∷ []) d w → WritesPage p did
              → w.translations ≡ d.translations → IsToldOf w p → w.out ≡ d.out → (w.frames ≡ d.frames)
              × (w.contents ≡ d.contents)
              → IsStillLocked p (load-of ∷ (called-did ++ did ∷ [])) v0 w
          locked-end did w works does same told out frames =
              let all = works-then p (load-of ∷ []) (called-did ++ did ∷ []) v0 v w loaded.works
              (works-then p called-did (did ∷ []) v d w work-called works) in
              let writes = each-both (WritesPage p) called-did (did ∷ []) does-called (does, tt) in
              search (
                rules,
                all,
                reads,
                writes,
                same ∙ reads-called ∙ loaded.reads,
                out ∙ back.away,
                frames.0
                    ∙ keeps-called.frames ∙ loaded.frames.0,
                frames.1 ∙ keeps-called.contents ∙ loaded.frames.1,
              )

          -- ---- the write answered

          module _ (u : Unit {0}) (ok : result ≡ Ok u) where
            pub may-clean : IsWritten d p f
            may-clean =
                let words = λ (t : d.start.tells ≡ true).
                let before : v.start.tells ≡ true = ap (λ (s : Origin). s.tells) (sym work-called.leaves.start) ∙ t in
                ap (λ (h : Held). h.block.words) held-is ∙ write.held (sym telling ∙ before)
                ∙ ap (λ (y : Result (Unit {0}) E). if is_ok y then page else old.words) ok ∙ page-is before
                ∙ ap (λ (x : Version). x.words) (sym (work-called.last (inr shares))) in
                search (rules, writes-called, ap (λ (h : Held). h.mapping) held-is ∙ stands, words)

            module _ (w : View X) (t : CleanTold p f d w) where
              abbrev clean-did : Did
              clean-did = did_store (places.Translation p) (trans_word (Some (clean_in f)))

              held-cleaned : held_at w p ≡ record held-called { mapping = Some (clean_in f) }
              held-cleaned = clean-held t ∙ ap (λ (h : Held). record h { mapping = Some (clean_in f) }) held-is

              locked-clean : IsStillLocked p (load-of ∷ (called-did ++ clean-did ∷ [])) v0 w
              locked-clean =
                  locked-end clean-did w (clean-works t) (cleans f refl) (ap (λ (y : View X). y.translations) t.brings.view)
                  (subst (λ (h : Held). h.fault ≡ h.block.count) (sym held-cleaned)
                  (loaded.told ∙ sym o.slot.block.count
                  ∙ sym (write.count ∙ ap
                  (λ (y : Result (Unit {0}) E). if is_ok y then old.count else count_more old.count) ok)))
                  (ap (λ (y : View X). y.out) t.brings.view)
                  (ap (λ (y : View X). y.frames) t.brings.view, ap (λ (y : View X). y.contents) t.brings.view)

              pub cleaned : f < 2 ^ 32 → IsSavedNow p v0 w
              cleaned small = record {
                done = load-of ∷ (called-did ++ clean-did ∷ []);
                locked = locked-clean;
                frame = f;
                saved = record {
                  cleaned = record { earlier = load-of ∷ called-did; step = clean-did; later = []; cut = refl; place = refl; wrote = refl };
                  dirty = found-dirty called-did;
                  block = once-called (clean-did ∷ []) ((λ here. refl), tt);
                };
                unraised = (
                  (λ here. refl),
                  each-both _ called-did (clean-did ∷ [])
                      (none-silent (places.Fault p) called-did silent-called)
                      ((λ here. absurd (let no : places.Translation p ≡ places.Fault p = here in cc)), tt),
                );
                stands = ap (λ (h : Held). h.mapping) held-cleaned;
                known = λ a page.
                    let word : ℕ = trans_word (Some (clean_in f)) in
                    let plain : word ≡ f + 1 = omega arith in
                    let last = left-at (load-of ∷ (called-did ++ clean-did ∷ [])) [] v0 w
                    locked-clean.works.leaves.start locked-clean.works.alone a (places.Translation p) word
                    (left-last (load-of ∷ called-did) clean-did word refl) in
                    ap (λ (n : ℕ). stands_dirty (mapping_of n)) (last ∙ plain) ∙ ap stands_dirty (mapping-clean f small);
                notes = ap (λ (y : View X). y.notes) t.brings.view ∙ keeps-called.notes ∙ notes-same p x.word v0 v x.under x.load;
              }

          -- ---- the write failed

          module _ (n : ℕ) (is : n ≡ new.count) where
            pub may-raise : MayRaise d p n
            may-raise = search (
              rules,
              or_right (seat_of d p).exclusive (seat_of d p).writing writes-called,
              is
                  ∙ ap (λ (h : Held). h.block.count) (sym held-is),
            )

            module _ (u : E) (err : result ≡ Err u) (bounded : new.count ≤ new.bound) (w : View X) (t : RaiseTold p n d w) where
              abbrev raise-did : Did
              raise-did = did_store (places.Fault p) n

              count : new.count ≡ count_more old.count
              count = write.count ∙ ap (λ (y : Result (Unit {0}) E). if is_ok y then old.count else count_more old.count) err

              -- the count is what the block's bound allows
              allowed : IsAllowed v.start p n
              allowed =
                  let bound : new.bound ≡ at 0 v.start.bounds p = write.bound ∙ o.slot.block.bound in
                  let raised : 1 ≤ count_more old.count = counts-one old.count in
                  let counted : n ≡ count_more old.count = is ∙ count in
                  (omega (arith, raised, counted), omega (arith, is, bounded, bound))

              -- the fault word was the count before
              noted-once : notes_of p (held_at d p).fault n ≡ record { page = p; count = n } ∷ []
              noted-once =
                  let fault : (held_at d p).fault ≡ old.count = ap (λ (h : Held). h.fault) held-is ∙ loaded.told ∙ sym o.slot.block.count in
                  subst (λ (j : ℕ). notes_of p j n ≡ record { page = p; count = n } ∷ []) (sym fault)
                  (subst (λ (j : ℕ). notes_of p old.count j ≡ record {
                    page = p;
                    count = j;
                  } ∷ []) (sym (is ∙ count)) (noted-more p old.count))

              pub refused : IsLeftDirty p n v0 w
              refused = record {
                done = load-of ∷ (called-did ++ raise-did ∷ []);
                locked =
                    locked-end raise-did w (raise-works t) (raises n refl)
                    (ap (λ (y : View X). y.translations) t.brings.view)
                    (subst (λ (h : Held). h.fault ≡ h.block.count)
                    (sym (raise-held t ∙ ap (λ (h : Held). record h { fault = n }) held-is)) is)
                    (ap (λ (y : View X). y.out) t.brings.view)
                    (ap (λ (y : View X). y.frames) t.brings.view, ap (λ (y : View X). y.contents) t.brings.view);
                frame = f;
                dirty = found-dirty (called-did ++ raise-did ∷ []);
                block = once-called (raise-did ∷ []) ((λ here. refl), tt);
                kept = (
                  (λ here. refl),
                  each-both _ called-did (raise-did ∷ [])
                      (none-silent (places.Translation p) called-did silent-called) (no-mapping p raise-did refl, tt),
                );
                raised = record { earlier = load-of ∷ called-did; step = raise-did; later = []; cut = refl; place = refl; wrote = refl };
                ends = refl;
                noted =
                    ap (λ (y : View X). y.notes) t.brings.view
                    ∙ ap (λ l. d.notes ++ l) noted-once
                    ∙ ap (λ l. l ++ record { page = p; count = n } ∷ []) (keeps-called.notes ∙ notes-same p x.word v0 v x.under x.load);
                allowed = subst (λ (s : Origin). IsAllowed s p n) loaded.works.leaves.start allowed;
              }

-- however the write ended, the page is locked as it was
pub still-locked : {X : Type 0} (p : ℕ) (v w : View X) (wrote : Result Bool ℕ) → EndsWrite p v w wrote
    → (done : List Did) × IsStillLocked p done v w
still-locked p v w (Ok false) e = (e.done, e.locked)
still-locked p v w (Ok true) e = (e.done, e.locked)
still-locked p v w (Err count) e = (e.done, e.locked)
