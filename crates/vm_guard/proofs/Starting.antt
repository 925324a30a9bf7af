-- The start of an optimistic guard: what its looks, the mark that it takes away and its load of the translation word prove of each answer.
use Rattle.vm_event.proofs.PageFacts.{none-some}
use Rattle.vm_step.specs.Evidence.Begins.{read}
use Rattle.vm_guard.proofs.OpenReads.{each-parts, holds-back, left-same, looked-open, looked-same, mapped-frame}
use Rattle.vm_guard.proofs.OpenReads.{named, readable-state, reads-by, translated-keeps, translated-reading}
use Rattle.vm_guard.proofs.Prelude.{[], AgainOrNeed, ap, append_assoc, AreQuiet, arith, At, at_state, BeginsReading}
use Rattle.vm_guard.proofs.Prelude.{cases_eq, Deny, Did, did_load, Each, EVICTED, frame_in, frame_of, HasLeft, inl}
use Rattle.vm_guard.proofs.Prelude.{inr, is_readable, IsAlone, IsDenied, IsLocking, IsOlder, IsQuiet, IsReading}
use Rattle.vm_guard.proofs.Prelude.{IsSaw, IsSince, IsUnmarked, kept_loads, left_at, List, loads_at, LOCKED}
use Rattle.vm_guard.proofs.Prelude.{look-loads, LookTold, None, NoneExpected, NoWord, Open, open_frame, ReadIs, refl}
use Rattle.vm_guard.proofs.Prelude.{rules, seat_of, Some, some-same, Start, state_of, still-locking, subst, sym}
use Rattle.vm_guard.proofs.Prelude.{WordPlace, tload-loads, TranslationTold, true, version_of, View, ℕ, ⊎_elim, ◌++◌}
use Rattle.vm_guard.proofs.Prelude.{◌<◌, ◌∙◌, ◌∷◌, ◌≡◌, ◌≢◌, ◌≤◌, ◌⊎◌}
use Rattle.vm_guard.proofs.QuietSteps.{look-quiet, quiet-then, translation-quiet}
use Rattle.vm_guard.proofs.Reading.{reading-kept}
use Rattle.vm_guard.proofs.Sure.{look-current, moved-words, start-known, start-words}
use Rattle.vm_guard.proofs.Unmarking.{load-unmarks, quiet-foreign, unmarking-quiet, unmarking-unmarks, unmarks-both}

-- a fact of a step in the middle
pub each-at : {A : Type 0} (P : A → Type 0) (l : List A) (d : A) (m : List A) → Each P (l ++ d ∷ m) → P d
each-at P l d m h = (each-parts P l (d ∷ m) h).1.0

-- the word seen agrees with those that the step found and left
abbrev Agrees : ℕ → ℕ → Did → Type 0
Agrees p seen d = at_state d.at (λ q. q ≡ p → IsSince seen d.found × IsSince seen d.wrote)

module _ {X : Type 0} (tied : Start → ℕ → List ℕ → ℕ → List ℕ → Type 0) (p : ℕ) where
  module _ (first word seen : ℕ) (u v y x w : View X) (l : LookTold tied p None first u v)
      (c : IsUnmarked p first v y) (t : TranslationTold p word y x) (m : LookTold tied p None seen x w) where
    abbrev later-steps : List Did
    later-steps = did_load (WordPlace.Translation p) word ∷ did_load (WordPlace.State p) seen ∷ []

    later-quiet : IsQuiet p later-steps y w
    later-quiet = quiet-then p (did_load (WordPlace.Translation p) word ∷ []) (did_load (WordPlace.State p) seen ∷ [])
        y x w (translation-quiet p word y x t) (look-quiet tied p seen x w m)

    all-quiet : IsQuiet p (did_load (WordPlace.State p) first ∷ c.done ++ later-steps) u w
    all-quiet = quiet-then p (did_load (WordPlace.State p) first ∷ []) (c.done ++ later-steps) u v w
        (look-quiet tied p first u v l) (quiet-then p c.done later-steps v y w c.quiet later-quiet)

    -- another version came to the page between the looks, or the second one found it Locked
    pub moved : (version_of first ≢ version_of seen) ⊎ (state_of seen ≡ LOCKED)
        → IsDenied AgainOrNeed NoWord NoneExpected p (Deny.Again (record {
          at = At.Page p;
          first = first;
          seen = seen;
        })) u w
    moved why =
        let load : List Did = did_load (WordPlace.Translation p) word ∷ [] in
        let whole : List Did = did_load (WordPlace.State p) first ∷ c.done ++ later-steps in
        let between-quiet : AreQuiet (WordPlace.State p) seen (c.done ++ load) =
        unmarking-quiet p first seen c.done load c.clears why (λ _. (none-some seen, λ _. refl), tt) in
        let saw : IsSaw NoWord NoneExpected whole (record { at = At.Page p; first = first; seen = seen }) = record {
          earlier = did_load (WordPlace.State p) first ∷ c.done ++ load;
          last = did_load (WordPlace.State p) seen;
          later = [];
          cut = ap (λ (k : List Did). did_load (WordPlace.State p) first ∷ k)
              (sym (append_assoc c.done load (did_load (WordPlace.State p) seen ∷ [])));
          gives = (refl, refl);
          since = c.done ++ load;
          begins = read [] (did_load (WordPlace.State p) first) refl (refl, refl) refl;
          quiet = between-quiet;
          foreign = ((λ _. none-some seen), quiet-foreign (WordPlace.State p) seen (c.done ++ load) between-quiet);
          why = ⊎_elim (λ n. inl n) (λ e. inr (inl e)) why;
        } in
        let later = unmarks-both p c.done later-steps (unmarking-unmarks p first c.done c.clears)
        (load-unmarks p (WordPlace.Translation p) word, (load-unmarks p (WordPlace.State p) seen, tt)) in
        search (
          rules,
          all-quiet,
          saw,
          (λ (a : IsAlone u). moved-words tied p first word seen u v y x w l c t m a why),
          load-unmarks p (WordPlace.State p) first,
          later,
          look-current tied p None seen x w m,
        )

    -- a page that was not Evicted is not at the same version later
    still-resident : state_of first ≢ EVICTED → version_of seen ≡ version_of first → state_of seen ≢ EVICTED
    still-resident resident at gone =
        let before : x.log ≡ ((u.log ++ did_load (WordPlace.State p) first ∷ []) ++ c.done) ++ did_load (WordPlace.Translation p) word ∷ []
        = (translation-quiet p word y x t).steady.log
        ∙ ap (λ (g : List Did). g ++ did_load (WordPlace.Translation p) word ∷ [])
        (c.quiet.steady.log ∙ ap (λ (g : List Did). g ++ c.done) (look-quiet tied p first u v l).steady.log) in
        let all = subst (λ g. Each (Agrees p seen) g) before m.since in
        let near = (each-parts (Agrees p seen) (u.log ++ did_load (WordPlace.State p) first ∷ []) c.done
        (each-parts (Agrees p seen) ((u.log ++ did_load (WordPlace.State p) first ∷ []) ++ c.done)
        (did_load (WordPlace.Translation p) word ∷ []) all).0).0 in
        let since = each-at (Agrees p seen) u.log (did_load (WordPlace.State p) first) [] near in
        resident ((since refl).0.2 gone (sym at))

    module _ (small : state_of first < 256) (unlocked : state_of first ≢ LOCKED) (resident : state_of first ≢ EVICTED)
        (small-seen : state_of seen < 256) (unlocked-seen : state_of seen ≢ LOCKED)
        (at : version_of seen ≡ version_of first) where
      readable : is_readable (state_of first) ≡ true
      readable = readable-state (state_of first) small unlocked resident

      still : is_readable (state_of seen) ≡ true
      still = readable-state (state_of seen) small-seen unlocked-seen (still-resident resident at)

      names : (f : ℕ) × (frame_in word ≡ Some f) × (f < x.start.frames)
          × ((seat_of w p).reading ≡ Some (record { version = version_of seen; frame = Some f }))
      names =
          let o = looked-open tied p None first u v l readable in
          named tied p word seen y x w o.0 (c.reads.reading ∙ o.1) t m still (o.2 ∙ sym at)

      -- the translation word names a frame
      pub names-frame : frame_in word ≡ None → ⊥
      names-frame e = none-some names.0 (sym e ∙ names.1)

      -- the second look finds the read that the first one opened
      pub looks-same : left_at seen (seat_of x p).reading ≡ ReadIs.Same
      looks-same =
          let o = looked-open tied p None first u v l readable in
          let k = translated-reading p word y x o.0 t (c.reads.reading ∙ o.1) in
          ap (left_at seen) k.1 ∙ left-same seen k.0 still (k.2 ∙ o.2 ∙ sym at)

      -- an earlier guard of the page, at the version found, reads on; one at an earlier version was left
      stays : (kept frame : ℕ) → IsReading p kept frame u → (IsReading p kept frame w × (loads_at w p ≡ loads_at u p)) ⊎ HasLeft p kept w
      stays kept frame r =
          let o : Open = record { version = version_of kept; frame = Some frame } in
          let older : IsOlder first (Some o) = subst (IsOlder first) r.reading l.older in
          let low : version_of kept ≤ version_of first = older.0 in
          ⊎_elim
          (λ e. let in-place : left_at first (seat_of u p).reading ≡ ReadIs.Same = ap (left_at first) r.reading
          ∙ left-same first o readable e in
          let opened : (seat_of y p).reading ≡ Some o = c.reads.reading ∙ looked-same tied p None first u v l in-place ∙ r.reading in
          let named : (seat_of x p).reading ≡ Some o = translated-keeps p word y x (version_of kept) frame t opened in
          let still-there : left_at seen (seat_of x p).reading ≡ ReadIs.Same = ap (left_at seen) named
          ∙ left-same seen o still (e ∙ sym at) in
          let seen-same : (seat_of w p).reading ≡ (seat_of x p).reading = looked-same tied p None seen x w m still-there in
          let before : loads_at v p ≡ loads_at u p = look-loads l ∙ ap (λ k. kept_loads k (loads_at u p)) in-place in
          let after : loads_at w p ≡ loads_at x p = look-loads m ∙ ap (λ k. kept_loads k (loads_at x p)) still-there in
          inl (
            reading-kept p kept frame u w r all-quiet.steady.start (all-quiet.holds p)
                (λ k. (all-quiet.knows p k).held) (seen-same ∙ named ∙ sym r.reading),
            after ∙ tload-loads t p ∙ c.reads.loads ∙ before,
          ))
          (λ ne. inr record {
            earlier = u.log;
            step = did_load (WordPlace.State p) first;
            later = c.done ++ later-steps;
            cut = all-quiet.steady.log;
            at = refl;
            other = first;
            open_word = r.open_word;
            was = inl refl;
            gone = inl (omega (arith, low, ne));
          })
          (cases_eq (version_of kept) (version_of first))

      pub began : (frame : ℕ) → p < u.start.pages → frame_in word ≡ Some frame → BeginsReading p seen frame u w
      began frame inside e =
          let here : names.0 ≡ frame = some-same names.0 frame (sym names.1 ∙ e) in
          let start : w.start ≡ u.start = all-quiet.steady.start in
          let reading : (seat_of w p).reading ≡ Some (record {
            version = version_of seen;
            frame = Some frame;
          }) = names.3 ∙ ap (λ (f : ℕ). Some (record { version = version_of seen; frame = Some f })) here in
          let from = reads-by w p frame
          (λ k. let locking : IsLocking (seat_of y p) = still-locking w y p (holds-back y w p (later-quiet.holds p)) k in
          ap (λ h. frame_of h.mapping) (later-quiet.knows p locking).held ∙ sym (t.locked locking) ∙ mapped-frame word ∙ e)
          (ap open_frame reading) in
          let inside-w = subst (λ s. p < s.pages) (sym start) inside in
          let frame-is = subst (λ s. frame < s.frames) (sym (look-quiet tied p seen x w m).steady.start)
          (subst (λ f. f < x.start.frames) here names.2) in
          let reads : IsReading p seen frame w = search (rules, inside-w, frame-is, still, reading, from) in
          record {
            done = did_load (WordPlace.State p) first ∷ c.done ++ later-steps;
            quiet = all-quiet;
            reads = reads;
            version = m.version;
            stays = stays;
            first = first;
            translation = word;
            clearing = c.done;
            cut = refl;
            clears = c.clears;
            looks = sym at;
            names = mapped-frame word ∙ e;
            table = λ a. start-words tied p first word seen u v y x w l c t m a;
            known = λ a. start-known tied p first word seen u v y x w l c t m a;
            current = look-current tied p None seen x w m;
          }
