-- The visit of one page by a flush: its parts, and what it comes to, by the words that its steps found. To a pass
-- that is alone each step gives the word that
-- the step before left, so no exchange is lost, and the page is saved.
use Rattle.vm_rule.specs.declared.view.WordPlace.TheVariants as places
use Rattle.vm_evict.proofs.{Locking.lock-now, Locking.unlocked-seat, Writing.no-state-written, Writing.stays-on}
use Rattle.vm_evict.proofs.Evidenced.{dirty-front, has-lost, no-mapping, none-kept, none-silent, saved-under}
use Rattle.vm_evict.proofs.Evidenced.{unlocked, unsaved-both, unsaved-load, none-stored, unsaved-one, wrote-taken}
use Rattle.vm_evict.proofs.Prelude.{cond-false, cond-true, eq-eqb, eqb, leaves-both, leaves-front, LeavesOnly}
use Rattle.vm_evict.proofs.Prelude.{mark_steps, ne_eqb, none-some, share_steps, Unstored, [], ap, arith, aside-of}
use Rattle.vm_evict.proofs.Prelude.{aside-self, aside-then, Bool, clean, Did, did_exchange, did_load, dirty_in, Each}
use Rattle.vm_evict.proofs.Prelude.{each-both, EndsWrite, Err, EVICTED, failed, false, false≢true, Flushed}
use Rattle.vm_evict.proofs.Prelude.{given-behind, given-front, GoesOnce, gone, HasGiven, HasLost, HasNotSaved}
use Rattle.vm_evict.proofs.Prelude.{HasTaken, HasWritten, held, home-both, inl, inr, is_some, IsAllowed, IsAlone}
use Rattle.vm_evict.proofs.Prelude.{IsCounted, IsDirtyFrame, IsFoundDirty, IsHeld, IsLeft, IsOfPage, IsOwnPlace}
use Rattle.vm_evict.proofs.Prelude.{IsSaved, IsStillLocked, IsUnheld, IsVisit, KeepsPage, known_word_at, KnowsClean}
use Rattle.vm_evict.proofs.Prelude.{leaves-then, LeavesLast, LeavesRest, List, look-only, LookTold, Lost, lost}
use Rattle.vm_evict.proofs.Prelude.{lost-only, mapping_in, mapping_of, MARKED, Marks, no_seat, None, Ok, once-behind}
use Rattle.vm_evict.proofs.Prelude.{once-front, OnlyReads, Option, Origin, part-found, refl, Result, rules, runs-one}
use Rattle.vm_evict.proofs.Prelude.{runs-self, runs-then, RunsAlone, same_Some, seat_of, SharesSeen, Some}
use Rattle.vm_evict.proofs.Prelude.{stands_dirty, Start, state_in, state_of, stays-alone, StaysOn, still-alone, subst}
use Rattle.vm_evict.proofs.Prelude.{sym, Taken, translation-only, TranslationTold, true, true≢false, UNLOCKED}
use Rattle.vm_evict.proofs.Prelude.{unshare-did, unshare-leaves, unshare-others, UnshareTold, version-within}
use Rattle.vm_evict.proofs.Prelude.{version_of, View, word-made, word-state, word-version, word_of, write_lock-did}
use Rattle.vm_evict.proofs.Prelude.{write_lock-leaves, write_lock-others, WriteLockTold, WritesNone, written}
use Rattle.vm_evict.proofs.Prelude.{written-behind, written-front, ℕ, ⊎_elim, ◌++◌, ◌+◌, ◌-◌, ◌<◌, ◌^◌, ◌∙◌, ◌∷◌, ◌≡◌}
use Rattle.vm_evict.proofs.Prelude.{◌≢◌, ◌⊎◌}
use Rattle.vm_evict.proofs.Tables.{found-first, kept-at, left-at, left-last, share-gone}

-- a page without a dirty frame is not dirty
pub not-dirty : (word : ℕ) (o : Option ℕ) → IsDirtyFrame word o → is_some o ≡ false → stands_dirty (mapping_of word) ≡ false
not-dirty word None d none = d
not-dirty word (Some f) d none = absurd (true≢false none)

-- a page with one is dirty in that frame
pub dirty-there : (word : ℕ) (o : Option ℕ) → IsDirtyFrame word o → is_some o ≡ true
    → (frame : ℕ) × (mapping_of word ≡ Some (dirty_in frame))
dirty-there word None d some = absurd (false≢true some)
dirty-there word (Some f) d some = (f, d)

abbrev pub mark-did : ℕ → ℕ → ℕ → Did
mark-did p word found = did_exchange (places.State p) word found (word_of MARKED (version_of word))

-- a page that was marked already is not marked, and one that was not is
marks-none : (p word : ℕ) → state_of word ≡ MARKED → mark_steps p word ≡ []
marks-none p word e = cond-true (eqb (state_of word) MARKED) [] (mark-did p word word ∷ []) (eq-eqb (state_of word) MARKED e)

marks-one : (p word : ℕ) → state_of word ≡ UNLOCKED → mark_steps p word ≡ mark-did p word word ∷ []
marks-one p word e = cond-false (eqb (state_of word) MARKED) [] (mark-did p word word ∷ [])
    (ne_eqb (state_of word) MARKED (λ is. omega (arith, e, is)))

module _ {X : Type 0} (p : ℕ) where
  -- ---- steps that leave the page

  pub page-then : (a b : List Did) (u v w : View X) → KeepsPage p a u v → KeepsPage p b v w → KeepsPage p (a ++ b) u w
  page-then a b u v w f g =
      search (
        rules,
        each-both (λ (d : Did). IsOwnPlace p d.at) a b f.own g.own,
        each-both (λ (d : Did). d.at ≡ places.State p → d.found ≡ None → d.wrote ≡ None) a b f.unreleased g.unreleased,
        aside-then (λ q. q ≡ p) a b u v w f.aside g.aside,
        runs-then a b [] [] u v w f.aside.start f.aside.parts f.alone
            g.alone,
      )

  pub left-then : (a b : List Did) (u v w : View X) → IsLeft p a u v → IsLeft p b v w → IsLeft p (a ++ b) u w
  left-then a b u v w f g = record {
    keeps = page-then a b u v w f.keeps g.keeps;
    notes = g.notes ∙ f.notes;
    unsaved = unsaved-both p a b f.unsaved g.unsaved;
  }

  -- one step on a word of the page, which found a word
  pub left-one : (d : Did) (found : ℕ) (v w : View X) → d.found ≡ Some found → OnlyReads (λ q. q ≡ p) (d ∷ []) v w
      → RunsAlone (d ∷ []) [] v w → IsOfPage p d.at → HasNotSaved p (d ∷ []) → IsLeft p (d ∷ []) v w
  left-one d found v w finds r runs own unsaved =
      let stored : Unstored p (d ∷ []) = ((λ here none. absurd (none-some found (sym none ∙ finds))), tt) in
      search (rules, stored)

  -- ---- the mark

  pub marked-before : (word : ℕ) (v : View X) → state_of word ≡ MARKED → Marks p word v v Taken
  marked-before word v e =
      let none : IsLeft p [] v v = record {
        keeps = record { own = tt; unreleased = tt; aside = aside-self (λ q. q ≡ p) v; frames = (refl, refl); alone = runs-self v };
        notes = refl;
        unsaved = record { kept = tt; home = tt };
      } in
      ([], none, inl (refl, e))

  module _ (word : ℕ) (v w : View X) (m : Marks p word v w Taken) where
    -- the mark alone was left there
    pub marked-only : (found : ℕ) → found ≢ word_of MARKED (version_of word) → Each (λ d. d.at ≡ places.State p → d.wrote ≢ Some found) m.0
    marked-only found ne =
        ⊎_elim
        (λ none. rw none.0 tt)
        (λ one. rw one.0 (
          (λ here is.
              ne (sym (same_Some (word_of MARKED (version_of word)) found
              (sym (wrote-taken word (word_of MARKED (version_of word))) ∙ is)))),
          tt,
        ))
        m.2

    -- and no other step left a word there
    pub mark-leaves : LeavesOnly (places.State p) (mark_steps p word) m.0
    mark-leaves =
        ⊎_elim
        (λ none. subst (λ (ds : List Did). LeavesOnly (places.State p) ds m.0) (sym (marks-none p word none.1)) (rw none.0 tt))
        (λ one. subst (λ (ds : List Did). LeavesOnly (places.State p) ds m.0) (sym (marks-one p word one.1)) ([], [], one.0, tt, tt))
        m.2

    -- the page was marked already, or is marked now, behind these steps
    pub marked-from : (a : List Did) → (state_of word ≡ MARKED)
        ⊎ ((state_of word ≡ UNLOCKED) × HasTaken (a ++ m.0) (places.State p) word (word_of MARKED (version_of word)))
    marked-from a =
        let taken : m.0 ≡ mark-did p word word ∷ [] → HasTaken (a ++ m.0) (places.State p) word (word_of MARKED (version_of word))
        = λ one. record {
          earlier = a;
          step = mark-did p word word;
          later = [];
          cut = ap (λ (t : List Did). a ++ t) one;
          is = (refl, refl, refl, wrote-taken word (word_of MARKED (version_of word)));
        } in
        ⊎_elim (λ none. inl none.1) (λ one. inr (one.1, taken one.0)) m.2

  -- ---- a pass that is alone

  module _ (w : View X) (page : p < w.start.pages) where
    -- the snapshot shows the words that the pass knows
    pub state-shown : state_in w.start w.snapshot p ≡ state_of (known_word_at w (places.State p))
    state-shown = ap state_of (part-found 0 w.start.pages w.snapshot.words p p page (omega arith))

    pub mapping-shown : mapping_in w.start w.snapshot p ≡ mapping_of (known_word_at w (places.Translation p))
    mapping-shown = ap mapping_of (part-found w.start.pages w.start.pages w.snapshot.words p (w.start.pages + p) page refl)

  -- it knows the page's state word
  pub record Stands (word : ℕ) (w : View X) : Type 0 where
    pub alone : IsAlone w
    pub page : p < w.start.pages
    pub state : known_word_at w (places.State p) ≡ word

  pub saved-clean : (word : ℕ) (w : View X) → Stands word w → (state_of word ≡ UNLOCKED) ⊎ (state_of word ≡ MARKED)
      → stands_dirty (mapping_of (known_word_at w (places.Translation p))) ≡ false → IsSaved w p
  saved-clean word w s none plain =
      let state = state-shown w s.page ∙ ap state_of s.state in
      inr (⊎_elim (λ e. inl (state ∙ e)) (λ e. inr (state ∙ e)) none, ap stands_dirty (mapping-shown w s.page) ∙ plain)

  -- after steps that left the word, or this one last
  module _ (word : ℕ) (done : List Did) (v w : View X) (s : Stands word v) (start : w.start ≡ v.start)
      (parts : (w.used ≡ v.used) × (w.fresh ≡ v.fresh)) (runs : RunsAlone done [] v w) where
    stands-now : (new : ℕ) → known_word_at w (places.State p) ≡ new → Stands new w
    stands-now new is = record {
      alone = still-alone v w parts runs.current s.alone;
      page = subst (λ (o : Origin). p < o.pages) (sym start) s.page;
      state = is;
    }

    pub stands-on : WritesNone (places.State p) done → Stands word w
    stands-on none = stands-now word (kept-at done [] v w start runs s.alone (places.State p) s.page none ∙ s.state)

    pub stands-left : (new : ℕ) → LeavesLast done (places.State p) new → Stands new w
    stands-left new last = stands-now new (left-at done [] v w start runs s.alone (places.State p) new last)

module _ {X : Type 0} (p : ℕ) (tied : Start → ℕ → List ℕ → ℕ → List ℕ → Type 0) (word : ℕ) (v v1 : View X)
    (look : LookTold tied p None word v v1) (old : Flushed) where
  abbrev busy : Flushed
  busy = record old { busy = old.busy + 1 }

  -- ---- the look

  abbrev look-is : Did
  look-is = did_load (places.State p) word

  looked : IsLeft p (look-is ∷ []) v v1
  looked = left-one p look-is word v v1 refl (look-only (λ q. q ≡ p) tied p word v v1 refl look)
      (runs-one look-is _ [] _ v _ v1 look.brings) refl (unsaved-one p look-is refl refl)

  abbrev seen : (later : List Did) → HasGiven (look-is ∷ later) (places.State p) word
  seen later = record { earlier = []; step = look-is; later = later; cut = refl; gives = (refl, refl) }

  pub page-before : p < v1.start.pages → p < v.start.pages
  page-before page = subst (λ (o : Origin). p < o.pages) looked.keeps.aside.start page

  module _ (page : p < v.start.pages) where
    stands1 : IsAlone v → Stands p word v1
    stands1 a =
        let s : Stands p word v = record {
          alone = a;
          page = page;
          state = sym (found-first look-is [] [] v v1 looked.keeps.alone a word refl);
        } in
        stands-on p word (look-is ∷ []) v v1 s looked.keeps.aside.start looked.keeps.aside.parts looked.keeps.alone ((λ here. refl), tt)

    pub by-look-gone : state_of word ≡ EVICTED → IsVisit p v v1 old old
    by-look-gone e = record {
      ends = gone (look-is ∷ []) word looked ((λ here. refl), tt) (seen []) e refl;
      settles = λ a h. (let s = stands1 a in record { busy = refl; saved = inl (inl (state-shown p v1 s.page ∙ ap state_of s.state ∙ e)) });
    }

    pub by-look-held : IsHeld word → IsVisit p v v1 old busy
    by-look-held held-so = record {
      ends = held (look-is ∷ []) word looked ((λ here. refl), tt) (record { given = seen []; foreign = tt }) held-so refl;
      settles = λ a h.
          (let free = look.unlocked a.0 h.0 h.1 in let low = held-so.0 in let high = held-so.1 in absurd (grind (arith, free, low, high)));
    }

    -- ---- the load of the translation word

    module _ (tr : ℕ) (v2 : View X) (load : TranslationTold p tr v1 v2) (none : (state_of word ≡ UNLOCKED) ⊎ (state_of word ≡ MARKED)) where
      abbrev load-is : Did
      load-is = did_load (places.Translation p) tr

      abbrev reads-did : List Did
      reads-did = look-is ∷ load-is ∷ []

      loaded : IsLeft p (load-is ∷ []) v1 v2
      loaded = left-one p load-is tr v1 v2 refl (translation-only (λ q. q ≡ p) p tr v1 v2 refl load)
          (runs-one load-is _ [] [] v1 _ v2 load.brings) refl (unsaved-load p tr)

      reads : IsLeft p reads-did v v2
      reads = left-then p (look-is ∷ []) (load-is ∷ []) v v1 v2 looked loaded

      stands2 : IsAlone v → Stands p word v2
      stands2 a = stands-on p word (load-is ∷ []) v1 v2 (stands1 a) loaded.keeps.aside.start loaded.keeps.aside.parts
          loaded.keeps.alone ((λ here. refl), tt)

      abbrev given : (later : List Did) → HasGiven (reads-did ++ later) (places.Translation p) tr
      given later = record { earlier = look-is ∷ []; step = load-is; later = later; cut = refl; gives = (refl, refl) }

      pub by-load-clean : stands_dirty (mapping_of tr) ≡ false → IsVisit p v v2 old old
      by-load-clean e = record {
        ends = clean reads-did tr reads (given []) e word (seen (load-is ∷ [])) none (inl ((λ here. refl), ((λ here. refl), tt))) refl;
        settles = λ a h.
            let there : tr ≡ known_word_at v1 (places.Translation p) =
            found-first load-is [] [] v1 v2 loaded.keeps.alone (stands1 a).alone tr refl in
            let kept = kept-at (load-is ∷ []) [] v1 v2 loaded.keeps.aside.start loaded.keeps.alone (stands1 a).alone
            (places.Translation p) (stands1 a).page ((λ here. refl), tt) in
            record {
              busy = refl;
              saved = inl (saved-clean p word v2 (stands2 a) none (ap (λ (n : ℕ). stands_dirty (mapping_of n)) (kept ∙ sym there) ∙ e));
            };
      }

      module _ (d : (frame : ℕ) × (mapping_of tr ≡ Some (dirty_in frame))) where
        dirty-before : (later : List Did) → (frame : ℕ) × IsFoundDirty p frame (reads-did ++ later)
        dirty-before later = (d.0, (tr, given later, d.1))

        none-written : (found : ℕ) → Each (λ d. d.at ≡ places.State p → d.wrote ≢ Some found) reads-did
        none-written found = none-kept reads-did (places.State p) found ((λ here. refl), ((λ here. refl), tt))

        pub by-mark-lost : (found : ℕ) (v3 : View X) → Marks p word v2 v3 (Lost found) → IsVisit p v v3 old busy
        by-mark-lost found v3 m =
            let did : Did = mark-did p word found in
            let loses : HasLost (reads-did ++ did ∷ []) (places.State p) word =
            has-lost reads-did [] (places.State p) word found (word_of MARKED (version_of word)) m.0
            (none-written found) in
            record {
              ends =
                  lost (reads-did ++ did ∷ []) word (left-then p reads-did (did ∷ []) v v2 v3 reads m.1)
                  (record { lost = loses; seen = word; given = seen (load-is ∷ []); expected = inl refl })
                  (dirty-before []) (inl ((λ _. refl), ((λ _. refl), ((λ _. loses.is.1.left), tt)))) refl;
              settles = λ a h. absurd (m.0 (found-first did [] [] v2 v3 m.1.keeps.alone (stands2 a).alone found refl ∙ (stands2 a).state));
            }

        -- ---- the page is marked

        module _ (v3 : View X) (m : Marks p word v2 v3 Taken) where
          abbrev marked : ℕ
          marked = word_of MARKED (version_of word)

          abbrev front-did : List Did
          front-did = reads-did ++ m.0

          front : IsLeft p front-did v v3
          front = left-then p reads-did m.0 v v2 v3 reads m.1

          front-leaves : LeavesOnly (places.State p) (mark_steps p word) front-did
          front-leaves = leaves-both (places.State p) [] (mark_steps p word) reads-did m.0
              ((λ _. refl), ((λ _. refl), tt)) (mark-leaves p word v2 v3 m)

          pub home-front : v1.out ≡ None → v3.out ≡ None
          home-front home = m.1.keeps.aside.out ∙ loaded.keeps.aside.out ∙ home

          stands3 : IsAlone v → Stands p marked v3
          stands3 a =
              ⊎_elim
              (λ unmarked.
              subst (λ (n : ℕ). Stands p n v3) (sym (word-made word) ∙ ap (λ (s : ℕ). word_of s (version_of word)) unmarked.1)
              (stands-on p word m.0 v2 v3 (stands2 a) m.1.keeps.aside.start m.1.keeps.aside.parts m.1.keeps.alone
              (subst (λ (ds : List Did). WritesNone (places.State p) ds) (sym unmarked.0) tt)))
              (λ one.
              stands-left p word m.0 v2 v3 (stands2 a) m.1.keeps.aside.start m.1.keeps.aside.parts m.1.keeps.alone marked
              (subst (λ (ds : List Did). LeavesLast ds (places.State p) marked) (sym one.0)
              (left-last [] (mark-did p word word) marked (wrote-taken word marked))))
              m.2

          module _ (expects : ℕ) (is : expects ≡ marked) where
            -- the word that the lock expects is the one found, where that was a mark, or else the mark that was put in its place
            own-mark : (expects ≡ word) ⊎ ((expects ≡ marked) × HasWritten front-did (places.State p) expects)
            own-mark =
                ⊎_elim
                (λ unmarked. inl (is ∙ ap (λ (s : ℕ). word_of s (version_of word)) (sym unmarked.1) ∙ word-made word))
                (λ one. inr (
                  is,
                  record {
                    earlier = reads-did;
                    step = mark-did p word word;
                    later = [];
                    cut = ap (λ (t : List Did). reads-did ++ t) one.0;
                    place = refl;
                    wrote = wrote-taken word marked ∙ ap (λ (n : ℕ). Some n) (sym is);
                  },
                ))
                m.2

            pub by-lock-lost : (found : ℕ) (v4 : View X) → found ≢ expects → WriteLockTold tied p expects found v3 v4
                → IsVisit p v v4 old busy
            by-lock-lost found v4 ne l =
                let did : Did = did_exchange (places.State p) expects found (word_of 1 (version_of expects)) in
                let runs : RunsAlone (did ∷ []) [] v3 v4 = runs-one did _ [] [] v3 _ v4 l.brings in
                let here : IsLeft p (did ∷ []) v3 v4 =
                left-one p did found v3 v4 refl (lost-only (λ q. q ≡ p) did expects found v3 _ v4 ne l.brings)
                runs refl (unsaved-one p did refl refl) in
                let foreign : Each (λ d. d.at ≡ places.State p → d.wrote ≢ Some found) front-did
                = each-both (λ (d : Did). d.at ≡ places.State p → d.wrote ≢ Some found) reads-did m.0
                (none-written found) (marked-only p word v2 v3 m found (λ e. ne (e ∙ sym is))) in
                let loses : HasLost (front-did ++ did ∷ []) (places.State p) expects =
                has-lost front-did [] (places.State p) expects found (word_of 1 (version_of expects)) ne
                foreign in
                record {
                  ends =
                      lost (front-did ++ did ∷ []) expects (left-then p front-did (did ∷ []) v v3 v4 front here)
                      (record { lost = loses; seen = word; given = seen (load-is ∷ m.0); expected = own-mark })
                      (dirty-before m.0)
                      (inr (leaves-front (places.State p) (mark_steps p word) front-did (did ∷ []) front-leaves
                      ((λ _. loses.is.1.left), tt))) refl;
                  settles = λ a h. absurd (ne (found-first did [] [] v3 v4 runs (stands3 a).alone found refl ∙ (stands3 a).state ∙ sym is));
                }

            -- ---- it was locked, and given up again

            module _ (home : v3.out ≡ None) (v4 : View X) (l : WriteLockTold tied p expects expects v3 v4)
                (v5 : View X) (found : ℕ) (v6 : View X) (u : UnshareTold p found v5 v6) where
              abbrev shared : ℕ
              shared = word_of 1 (version_of expects)

              module _ (done : List Did) (k : IsStillLocked p done v4 v5) where
                abbrev lock : List Did
                lock = write_lock-did refl l ∷ []

                abbrev end : List Did
                end = unshare-did u ∷ []

                abbrev back-did : List Did
                back-did = lock ++ (done ++ end)

                abbrev all-did : List Did
                all-did = front-did ++ back-did

                lock-rest : LeavesRest p lock v3 v4
                lock-rest = write_lock-leaves refl l

                back : KeepsPage p back-did v3 v6
                back =
                    let before = write_lock-others refl l (λ q. q ≡ p) refl in
                    let after = unshare-others u (λ q. q ≡ p) refl in
                    let leaves : LeavesRest p back-did v3 v6 = leaves-then p lock (done ++ end) v3 v4 v6 lock-rest
                    (leaves-then p done end v4 v5 v6 k.works.leaves (unshare-leaves u)) in
                    let runs : RunsAlone back-did [] v3 v6 = runs-then lock (done ++ end) [] [] v3 v4 v6 before.start
                    before.parts before.runs
                    (runs-then done end [] [] v4 v5 v6 k.works.leaves.start k.works.leaves.parts k.works.alone
                    after.runs) in
                    let seat : seat_of v6 p ≡ no_seat = unlocked-seat u (k.works.seat ∙ lock-now l) in
                    let un : IsUnheld v3 p = l.unheld refl in
                    let own : StaysOn p back-did = (
                      inl refl,
                      each-both (λ (d : Did). IsOwnPlace p d.at) done end (stays-on p done k.does)
                          (inl refl, tt),
                    ) in
                    let unreleased : Unstored p back-did
                    = (
                      (λ here none. absurd (none-some expects (sym none))),
                      each-both (λ (d : Did). d.at ≡ places.State p → d.found ≡ None → d.wrote ≡ None) done end
                          (none-stored (places.State p) done (no-state-written p done k.does))
                          ((λ here none. absurd (none-some found (sym none))), tt),
                    ) in
                    let aside = aside-of p back-did v3 v6 leaves (after.out ∙ k.home ∙ sym home) (grind arith)
                    (λ locking. absurd (unlocked (seat_of v3 p) un.shares un.exclusive locking))
                    (stays-alone back-did v3 v6 leaves.start runs) in
                    search (
                      rules,
                      own,
                      unreleased,
                      aside,
                      runs,
                      after.keeps.frames ∙ k.frames.0
                          ∙ before.keeps.frames,
                      after.keeps.contents ∙ k.frames.1 ∙ before.keeps.contents,
                    )

                all : KeepsPage p all-did v v6
                all = page-then p front-did back-did v v3 v6 front.keeps back

                notes-before : v4.notes ≡ v.notes
                notes-before = (write_lock-others refl l (λ q. q ≡ p) refl).keeps.notes ∙ front.notes

                notes-same : v5.notes ≡ v4.notes → v6.notes ≡ v.notes
                notes-same same = (unshare-others u (λ q. q ≡ p) refl).keeps.notes ∙ same ∙ notes-before

                lock-kept : HasNotSaved p lock
                lock-kept = unsaved-one p (write_lock-did refl l) refl refl

                end-kept : HasNotSaved p end
                end-kept = unsaved-one p (unshare-did u) refl refl

                -- the block moves in the write alone
                once-in : GoesOnce p done → GoesOnce p all-did
                once-in o = once-behind p front-did back-did front.unsaved.home
                    (once-behind p lock (done ++ end) lock-kept.home (once-front p done end o end-kept.home))

                all-kept : WritesNone (places.Translation p) done → WritesNone (places.Translation p) all-did
                all-kept kept =
                    each-both _ front-did back-did front.unsaved.kept
                    (each-both _ lock (done ++ end) lock-kept.kept (each-both _ done end kept end-kept.kept))

                -- the share is taken from the mark, and given up
                lock-is : write_lock-did refl l ≡ did_exchange (places.State p) marked marked (word_of 1 (version_of word))
                lock-is =
                    ap (λ (n : ℕ). did_exchange (places.State p) n n (word_of 1 (version_of n))) is
                    ∙ ap (λ (n : ℕ). did_exchange (places.State p) marked marked (word_of 1 n))
                    (word-version MARKED (version_of word) (version-within word))

                back-leaves : LeavesOnly (places.State p) (share_steps p word found) back-did
                back-leaves = (
                  [],
                  done ++ end,
                  ap (λ (d : Did). d ∷ (done ++ end)) lock-is,
                  tt,
                  (done, [], refl, no-state-written p done k.does, tt),
                )

                abbrev share : SharesSeen p word all-did
                share = record {
                  taken = record {
                    earlier = front-did;
                    step = write_lock-did refl l;
                    later = done ++ end;
                    cut = refl;
                    is = (
                      refl,
                      ap (λ (n : ℕ). Some n) is,
                      ap (λ (n : ℕ). Some n) is,
                      wrote-taken expects shared
                          ∙ ap (λ (n : ℕ). Some (word_of 1 n))
                          (ap version_of is ∙ word-version MARKED (version_of word) (version-within word)),
                    );
                  };
                  looked = record { given = seen (load-is ∷ m.0); foreign = tt };
                  why = dirty-before m.0;
                  from = marked-from p word v2 v3 m reads-did;
                  only = (
                    found,
                    leaves-both (places.State p) (mark_steps p word) (share_steps p word found) front-did
                        back-did front-leaves back-leaves,
                  );
                }

                -- the pass that is alone finds its share, and the page unlocked afterwards
                module _ (a : IsAlone v) where
                  stands4 : Stands p shared v4
                  stands4 =
                      let f = write_lock-others refl l (λ q. q ≡ p) refl in
                      stands-left p marked lock v3 v4 (stands3 a) f.start f.parts f.runs shared
                      (left-last [] (write_lock-did refl l) shared (wrote-taken expects shared))

                  stands5 : Stands p shared v5
                  stands5 = stands-on p shared done v4 v5 stands4 k.works.leaves.start k.works.leaves.parts
                      k.works.alone (no-state-written p done k.does)

                  saved-now : KnowsClean p v4 v5 → IsSaved v6 p
                  saved-now known =
                      let f = unshare-others u (λ q. q ≡ p) refl in
                      let there : found ≡ known_word_at v5 (places.State p) = found-first (unshare-did u) [] [] v5 v6
                      f.runs stands5.alone found refl in
                      let free : Stands p (word_of UNLOCKED (version_of expects)) v6
                      = subst (λ (n : ℕ). Stands p n v6)
                      (ap (λ (n : ℕ). n - 2 ^ 56) (there ∙ stands5.state) ∙ share-gone (version_of expects))
                      (stands-left p shared end v5 v6 stands5 f.start f.parts f.runs (found - 2 ^ 56)
                      (left-last [] (unshare-did u) (found - 2 ^ 56) refl)) in
                      let kept = kept-at end [] v5 v6 f.start f.runs stands5.alone (places.Translation p) stands5.page
                      (no-mapping p (unshare-did u) refl, tt) in
                      saved-clean p (word_of UNLOCKED (version_of expects)) v6 free
                      (inl (word-state UNLOCKED (version_of expects) (version-within expects)))
                      (ap (λ (n : ℕ). stands_dirty (mapping_of n)) kept ∙ known stands4.alone stands4.page)

              pub by-write : (wrote : Result Bool ℕ) → EndsWrite p v4 v5 wrote → (new : Flushed)
                  → IsCounted p wrote old new → IsVisit p v v6 old new
              by-write (Ok false) e new counted =
                  let k = e.locked in
                  record {
                    ends =
                        clean (all-did e.done k) e.word
                        record {
                          keeps = all e.done k;
                          notes = notes-same e.done k e.notes;
                          unsaved = record {
                            kept = all-kept e.done k (none-silent (places.Translation p) e.done e.silent);
                            home = home-both p front-did _ front.unsaved.home
                                (home-both p (lock e.done k) _ (lock-kept e.done k).home
                                (home-both p e.done (end e.done k) e.stays (end-kept e.done k).home));
                          };
                        }
                        (given-behind front-did _ (places.Translation p) e.word
                        (given-behind (lock e.done k) _ (places.Translation p) e.word
                        (given-front e.done (end e.done k) (places.Translation p) e.word e.given)))
                        e.clean word (seen (load-is ∷ (m.0 ++ back-did e.done k))) none (inr (share e.done k)) counted;
                    settles = λ a h. record { busy = ap (λ (f : Flushed). f.busy) counted; saved = inl (saved-now e.done k a e.known) };
                  }
              by-write (Ok true) e new counted =
                  let k = e.locked in
                  record {
                    ends =
                        written (all-did e.done k) e.frame word (all e.done k) (notes-same e.done k e.notes) (share e.done k)
                        (saved-under p e.frame e.done (end e.done k) e.done (all-did e.done k) e.saved
                        (once-in e.done k e.saved.block)) counted;
                    settles = λ a h. record { busy = ap (λ (f : Flushed). f.busy) counted; saved = inl (saved-now e.done k a e.known) };
                  }
              by-write (Err count) e new counted =
                  let k = e.locked in
                  record {
                    ends =
                        failed (all-did e.done k) word count (all e.done k)
                        record {
                          shared = share e.done k;
                          dirty = (e.frame, dirty-front p e.frame e.done (end e.done k) e.dirty);
                          block = once-in e.done k e.block;
                          kept = all-kept e.done k e.kept;
                          raised = written-behind front-did _ (places.Fault p) count
                              (written-behind (lock e.done k) _ (places.Fault p) count
                              (written-front e.done (end e.done k) (places.Fault p) count e.raised));
                          noted = (unshare-others u (λ q. q ≡ p) refl).keeps.notes ∙ e.noted
                              ∙ ap (λ ns. ns ++ record { page = p; count = count } ∷ []) (notes-before e.done k);
                          allowed = subst (λ (o : Origin). IsAllowed o p count)
                              ((lock-rest e.done k).start ∙ front.keeps.aside.start) e.allowed;
                        }
                        counted;
                    settles = λ a h. record {
                      busy = ap (λ (f : Flushed). f.busy) counted;
                      saved = inr (ap (λ (f : Flushed). f.failed) counted);
                    };
                  }
