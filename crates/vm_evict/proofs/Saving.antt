-- The first phase: the look at a candidate and its translation word, and the write of one that is shared.
use Rattle.vm_rule.specs.declared.view.WordPlace.TheVariants as places
use Rattle.vm_evict.specs.declared.candidate.Phase.TheVariants as phases
use Rattle.vm_evict.specs.declared.candidate.Stage.TheVariants as stages
use Rattle.vm_evict.proofs.{Writing.no-state-written}
use Rattle.vm_evict.proofs.Evidenced.{dirty-front, no-mapping, none-kept, none-silent, none-stored, rests-on, saved-behind, shared-front}
use Rattle.vm_evict.proofs.Evidenced.{unsaved-both, unsaved-load, unsaved-one}
use Rattle.vm_evict.proofs.Moving.{come-still, gives-nothing, moves-then, Quietly, quietly-then, quietly-to}
use Rattle.vm_evict.proofs.Prelude.{[], Advances, alone-then, ap, append_assoc, arith, Bool, cases_eq, clean_in}
use Rattle.vm_evict.proofs.Prelude.{Closed, cond-false, cond-true, Did, did_load, each-both, each-map, EndsWrite}
use Rattle.vm_evict.proofs.Prelude.{eq-eqb, eqb, false, false≢true, given-behind, gives_up, HasLockTaken, HasNotSaved}
use Rattle.vm_evict.proofs.Prelude.{HasSaved, Held, held_at, inl, inr, is_readable, is_some, IsAllowed, IsAlone}
use Rattle.vm_evict.proofs.Prelude.{IsCleanAt, IsDirtyFrame, IsFoundClean, IsFoundDirty, IsLeftDirty, IsSavedNow}
use Rattle.vm_evict.proofs.Prelude.{IsSeenClean, IsSome, IsStillLocked, IsToShare, IsWaiting, IsWriteFailed}
use Rattle.vm_evict.proofs.Prelude.{IsWriting, known_word_at, KnowsKept, KnowsLocked, KnowsStage, left_at, left_open}
use Rattle.vm_evict.proofs.Prelude.{List, look-only, look-others, look-own, LookTold, Mapping, mapping_of, MARKED}
use Rattle.vm_evict.proofs.Prelude.{Moved, Moves, ne_eqb, no-fault, no_seat, None, none-some, Ok, once-behind}
use Rattle.vm_evict.proofs.Prelude.{once-front, only-then, OnlyReads, Open, open_after, Opened, Option, Origin}
use Rattle.vm_evict.proofs.Prelude.{put_at, ReadIs, reads, refl, rules, runs-then, Same, Seat, seat_of, Some}
use Rattle.vm_evict.proofs.Prelude.{stands_dirty, Start, starts-then, state_of, stays-alone, still-alone, subst, sym}
use Rattle.vm_evict.proofs.Prelude.{tload-others, tload-own, Translation, translation-only, translation_of}
use Rattle.vm_evict.proofs.Prelude.{TranslationTold, true, unshare-did, UnshareTold, upd-same, version_of, View}
use Rattle.vm_evict.proofs.Prelude.{writes, WritesNone, WritesPage, writing_seat, written-behind, written-front, ℕ}
use Rattle.vm_evict.proofs.Prelude.{⊎_elim, ◌++◌, ◌-◌, ◌<◌, ◌^◌, ◌∙◌, ◌∷◌, ◌≡◌, ◌≢◌}
use Rattle.vm_evict.proofs.Tables.{found-first, kept-at, kept-then, left-at, locked-on, share-gone, silent-page, state-left, stays-known}
use Rattle.vm_evict.proofs.Locking.{clean-of, given-quiet, given-rests, quiet-one, taken-works}

-- a look at a page that can be read leaves an open read at the version found
opened-at : (found : ℕ) (o : Option Open) → is_readable (state_of found) ≡ true
    → (r : Open) × (open_after (left_at found o) o (version_of found) ≡ Some r) × (r.version ≡ version_of found)
opened-at found None open_word = (
  record {
    version = version_of found;
    frame = None;
  },
  ap (λ (l : ReadIs). open_after l None (version_of found)) (cond-true (is_readable (state_of found)) Opened Closed open_word),
  refl,
)
opened-at found (Some o) open_word =
    let left : left_at found (Some o) ≡ left_open (Some o) (version_of found) =
    cond-true (is_readable (state_of found)) (left_open (Some o) (version_of found)) Closed open_word in
    ⊎_elim
    (λ (e : o.version ≡ version_of found). (
      o,
      ap (λ (l : ReadIs). open_after l (Some o) (version_of found))
          (left ∙ cond-true (eqb o.version (version_of found)) Same Moved (eq-eqb o.version (version_of found) e)),
      e,
    ))
    (λ (ne : o.version ≢ version_of found). (
      record {
        version = version_of found;
        frame = None;
      },
      ap (λ (l : ReadIs). open_after l (Some o) (version_of found))
          (left ∙ cond-false (eqb o.version (version_of found)) Same Moved (ne_eqb o.version (version_of found) ne)),
      refl,
    ))
    (cases_eq o.version (version_of found))

module _ {X : Type 0} (tied : Start → ℕ → List ℕ → ℕ → List ℕ → Type 0) (p word found t : ℕ) (done : List Did)
    (v x a b : View X) (h : IsWaiting p done v x) (look : LookTold tied p None found x a)
    (load : TranslationTold p t a b) where
  abbrev pub look-did : Did
  look-did = did_load (places.State p) found

  abbrev pub load-did : Did
  load-did = did_load (places.Translation p) t

  abbrev left : ReadIs
  left = left_at found (seat_of x p).reading

  pub looked : Quietly phases.Save (p, word) (look-did ∷ load-did ∷ []) x b
  looked =
      let look-quiet = quiet-one p phases.Save word (look-others look (λ q. q ≡ p) refl) (look-own look) []
      (ap (λ (y : View X). y.translations) look.brings.view) (writes (reads (inl refl) refl refl)) in
      let load-quiet = quiet-one p phases.Save word (tload-others load (λ q. q ≡ p) refl) (tload-own load)
      (translation_of p t (seat_of a p).reading) (ap (λ (y : View X). y.translations) load.brings.view)
      (writes (reads (inl refl) refl refl)) in
      quietly-then phases.Save (p, word) (look-did ∷ []) (load-did ∷ []) x a b look-quiet load-quiet

  -- the page waits on
  pub waits-on : IsWaiting p (done ++ look-did ∷ load-did ∷ []) v b
  waits-on =
      let only : OnlyReads (λ q. q ≡ p) (look-did ∷ load-did ∷ []) x b
      = only-then (λ q. q ≡ p) (look-did ∷ []) (load-did ∷ []) x a b
      (look-only (λ q. q ≡ p) tied p found x a refl look) (translation-only (λ q. q ≡ p) p t a b refl load) in
      record {
        quiet = each-both (λ (d : Did). d.at ≡ places.State p → d.wrote ≡ None) done (look-did ∷ load-did ∷ [])
            h.quiet ((λ here. refl), ((λ here. refl), tt));
        kept = unsaved-both p done (look-did ∷ load-did ∷ []) h.kept
            (unsaved-both p (look-did ∷ []) (load-did ∷ []) (unsaved-one p look-did refl refl) (unsaved-load p t));
        start = only.aside.start ∙ h.start;
        since = starts-then v.releases x.releases b.releases h.since only.aside.releases;
        rests = rests-on p v x b (only.aside.holds p) (only.aside.knows p) h.rests;
      }

  -- a pass that is alone knows its words as before
  pub waits-known : IsAlone x → p < x.start.pages → KnowsKept p v x → KnowsKept p v b
  waits-known alone page k =
      kept-then p v x b k (silent-page (look-did ∷ load-did ∷ []) [] x b looked.moves.leaves.start looked.runs alone p
      page (refl, (refl, tt)))

  -- it is to be shared where the look found another word, or the load a dirty page
  pub shares-another : found ≢ word → IsToShare p word (done ++ look-did ∷ load-did ∷ [])
  shares-another ne = inr (
    found,
    record {
      earlier = done;
      step = look-did;
      later = load-did ∷ [];
      cut = refl;
      gives = (refl, refl);
    },
    (refl, refl),
    ne,
  )

  pub shares-dirty : (o : Option ℕ) → IsDirtyFrame t o → is_some o ≡ true → IsToShare p word (done ++ look-did ∷ load-did ∷ [])
  shares-dirty None d some = absurd (false≢true some)
  shares-dirty (Some f) d some =
      inl (
        f,
        (
          t,
          record {
            earlier = done ++ look-did ∷ [];
            step = load-did;
            later = [];
            cut = sym (append_assoc done (look-did ∷ []) (load-did ∷ []));
            gives = (refl, refl);
          },
          d,
        ),
      )

  module _ (same : found ≡ word) (marked : state_of word ≡ MARKED) (clean : stands_dirty (mapping_of t) ≡ false) where
    read : (r : Open) × (open_after left (seat_of x p).reading (version_of found) ≡ Some r) × (r.version ≡ version_of found)
    read = opened-at found (seat_of x p).reading (ap (λ (n : ℕ). is_readable (state_of n)) same ∙ ap is_readable marked)

    reading : (seat_of a p).reading ≡ Some read.0
    reading =
        ap (λ (y : View X). (seat_of y p).reading) look.brings.view
        ∙ ap (λ (s : Seat). s.reading)
        (upd-same (put_at no_seat x.seats) p
        (record (seat_of x p) { reading = open_after left (seat_of x p).reading (version_of found) }))
        ∙ read.1

    seen-clean : IsSeenClean p word (done ++ look-did ∷ load-did ∷ []) v b
    seen-clean =
        let item : ℕ → Translation = λ n. record { page = p; version = n; word = t } in
        let read-at : b.translations ≡ item read.0.version ∷ a.translations =
        ap (λ (y : View X). y.translations) load.brings.view
        ∙ ap (λ (o : Option Open). translation_of p t o ++ a.translations) reading in
        let loaded : b.translations ≡ [] ++ item (version_of word) ∷ a.translations =
        read-at ∙ ap (λ (n : ℕ). item n ∷ a.translations) (read.2 ∙ ap version_of same) in
        search (rules, waits-on, loaded, clean)

    -- it is clean, and left for the next phase
    pub clean-so : Advances phases.Save (p, word) stages.Waiting stages.Clean done v x b
    clean-so =
        quietly-to phases.Save (p, word) stages.Waiting stages.Clean done (look-did ∷ load-did ∷ []) v x b looked
        seen-clean tt (gives-nothing refl refl refl)
        waits-known

-- ---- A page under write-back is written where it is dirty; where the write fails the share is given up.

module _ {X : Type 0} (p word : ℕ) (done : List Did) (v x y : View X) (h : IsWriting p word false done v x) where
  moves-write : (more : List Did) → IsStillLocked p more x y → Moves phases.Save (p, word) more x y
  moves-write more k = record {
    leaves = k.works.leaves;
    does = each-map (WritesPage p) _ (λ d w. writes w) more k.does;
    home = λ e. k.home;
    newer = [];
    reads = k.reads;
  }

  -- the steps of the write are on the page alone, and keep it locked
  quiet-write : (more : List Did) → IsStillLocked p more x y → y.notes ≡ x.notes → Quietly phases.Save (p, word) more x y
  quiet-write more k notes = search (rules, moves-write more k)

  -- it stays under write-back, and was written or not
  writing-on : (written : Bool) (more : List Did) → IsStillLocked p more x y → IsSome (held_at y p).mapping
      → (written ≡ false → HasNotSaved p more)
      → (written ≡ true → (frame : ℕ) × ((held_at y p).mapping ≡ Some (clean_in frame)) × HasSaved p frame more more)
      → IsWriting p word written (done ++ more) v y
  writing-on written more k resident kept saved =
      let state = no-state-written p more k.does in
      record {
        taken = taken-works p word writing_seat (inr (omega arith)) v x h.taken more y k.works k.told;
        shared = shared-front p word done more h.shared;
        foreign = λ found ne. each-both (λ (d : Did). d.at ≡ places.State p → d.wrote ≢ Some found) done more
            (h.foreign found ne) (none-kept more (places.State p) found state);
        unreleased = each-both (λ (d : Did). d.at ≡ places.State p → d.found ≡ None → d.wrote ≡ None) done more
            h.unreleased (none-stored (places.State p) more state);
        kept = λ e. unsaved-both p done more (h.kept refl) (kept e);
        resident = resident;
        cleaned = λ e. let there = saved e in (there.0, there.1, saved-behind p word there.0 done more h.shared (h.kept refl).home there.2);
      }

  known-on : (more : List Did) → IsStillLocked p more x y → IsAlone x → p < x.start.pages
      → KnowsStage (p, word) (stages.Shared false) v x → KnowsLocked (p, word) 1 (version_of word) v y
  known-on more k alone page known = locked-on (p, word) 1 (version_of word) v x y
      (kept-at more [] x y k.works.leaves.start k.works.alone alone (places.State p) page
      (no-state-written p more k.does)) known.0

  -- ---- it was clean

  pub kept-so : IsFoundClean p x y → Advances phases.Save (p, word) (stages.Shared false) (stages.Shared false) done v x y
  kept-so c =
      let stands : IsCleanAt p y =
      clean-of (held_at y p).mapping (subst (λ (k : Held). IsSome k.mapping) (sym c.held) h.resident)
      (ap stands_dirty (sym c.said) ∙ c.clean) in
      let kept : HasNotSaved p c.done = record { kept = none-silent (places.Translation p) c.done c.silent; home = c.stays } in
      quietly-to phases.Save (p, word) (stages.Shared false) (stages.Shared false) done c.done v x y (quiet-write c.done c.locked c.notes) (
        writing-on false c.done c.locked (subst (λ (m : Option Mapping). IsSome m) (sym stands.1) refl) (λ e. kept)
            (λ e. absurd (false≢true e)),
        stands,
      ) tt (gives-nothing refl refl refl)
      (λ alone page k. stays-known (p, word) (stages.Shared false) v x y
      (silent-page c.done [] x y c.locked.works.leaves.start c.locked.works.alone alone p page c.silent) k)

  -- ---- it was dirty, and written

  pub saved-so : IsSavedNow p x y → Advances phases.Save (p, word) (stages.Shared false) (stages.Shared true) done v x y
  saved-so c =
      quietly-to phases.Save (p, word) (stages.Shared false) (stages.Shared true) done c.done v x y (quiet-write c.done c.locked c.notes) (
        writing-on true c.done c.locked (subst (λ (m : Option Mapping). IsSome m) (sym c.stands) refl)
            (λ e. absurd (false≢true (sym e))) (λ e. (c.frame, c.stands, c.saved)),
        (c.frame, c.stands),
      ) tt
      (gives-nothing refl refl refl)
      (λ alone page k. (
        known-on c.done c.locked alone page k,
        kept-at c.done [] x y c.locked.works.leaves.start c.locked.works.alone alone (places.Fault p) page c.unraised ∙ k.1,
        λ e. absurd (false≢true (sym e)),
      ))

  -- ---- its write failed, and the share is given up

  module _ (count : ℕ) (r : IsLeftDirty p count x y) where
    held-on : HasLockTaken p word writing_seat v y
    held-on = taken-works p word writing_seat (inr (omega arith)) v x h.taken r.done y r.locked.works r.locked.told

    module _ (last : ℕ) (w : View X) (u : UnshareTold p last y w) where
      abbrev end-did : Did
      end-did = unshare-did u

      abbrev both : List Did
      both = r.done ++ end-did ∷ []

      gone : Quietly phases.Save (p, word) (end-did ∷ []) y w
      gone = given-quiet p word v y held-on phases.Save last w u (gives_up (last, refl))

      dirty-on : IsFoundDirty p r.frame both
      dirty-on = dirty-front p r.frame r.done (end-did ∷ []) r.dirty

      failed : IsWriteFailed p word count (done ++ both) v
      failed = record {
        shared = shared-front p word done both h.shared;
        dirty = (r.frame, (dirty-on.0, given-behind h.shared.taken.later both (places.Translation p) dirty-on.0 dirty-on.1, dirty-on.2));
        block = once-behind p done both (h.kept refl).home (once-front p r.done (end-did ∷ []) r.block (no-fault p end-did refl, tt));
        kept = each-both _ done both (h.kept refl).kept (each-both _ r.done (end-did ∷ []) r.kept (no-mapping p end-did refl, tt));
        raised = written-behind done both (places.Fault p) count (written-front r.done (end-did ∷ []) (places.Fault p) count r.raised);
        allowed = subst (λ (o : Origin). IsAllowed o p count) h.taken.start r.allowed;
        unreleased =
            each-both (λ (d : Did). d.at ≡ places.State p → d.found ≡ None → d.wrote ≡ None) done both h.unreleased
            (each-both (λ (d : Did). d.at ≡ places.State p → d.found ≡ None → d.wrote ≡ None) r.done (end-did ∷ [])
            (none-stored (places.State p) r.done (no-state-written p r.done r.locked.does))
            ((λ here none. absurd (none-some last (sym none))), tt));
      }

      -- what a pass that is alone knows once the write failed, and once the share was given up
      failed-known : IsAlone x → p < x.start.pages → KnowsStage (p, word) (stages.Shared false) v x
          → KnowsStage (p, word) (stages.Failed count) v w
      failed-known alone page k =
          let start = r.locked.works.leaves.start in
          let runs = r.locked.works.alone in
          let shared = known-on r.done r.locked alone page k in
          let raised : known_word_at y (places.Fault p) ≡ count =
          left-at r.done [] x y start runs alone (places.Fault p) count record {
            written = r.raised;
            none_after = subst (λ (l : List Did). WritesNone (places.Fault p) l) (sym r.ends) tt;
          } in
          let alone-then : IsAlone y = still-alone x y r.locked.works.leaves.parts runs.current alone in
          let page-then : p < y.start.pages = subst (λ (o : Origin). p < o.pages) (sym start) page in
          let end-start = gone.moves.leaves.start in
          let found : last ≡ known_word_at y (places.State p) = found-first end-did [] [] y w gone.runs alone-then last refl in
          let end = state-left end-did [] y w end-start gone.runs alone-then p page-then refl (last - 2 ^ 56) refl in (
            record { before = shared.before; now = end.0 ∙ ap (λ (n : ℕ). n - 2 ^ 56) (found ∙ shared.now) ∙ share-gone (version_of word) },
            end.2 ∙ kept-at r.done [] x y start runs alone (places.Translation p) page r.kept ∙ k.2 refl,
            end.1 ∙ raised,
          )

      pub failed-so : Advances phases.Save (p, word) (stages.Shared false) (stages.Failed count) done v x w
      failed-so =
          let runs = runs-then r.done (end-did ∷ []) [] [] x y w r.locked.works.leaves.start
          r.locked.works.leaves.parts r.locked.works.alone gone.runs in
          let alone = alone-then x y w r.locked.works.leaves.parts
          (stays-alone r.done x y r.locked.works.leaves.start r.locked.works.alone)
          (stays-alone (end-did ∷ []) y w gone.moves.leaves.start gone.runs) in
          let moves = moves-then phases.Save (p, word) r.done (end-did ∷ []) x y w (moves-write r.done r.locked) gone.moves in
          let notes : w.notes ≡ x.notes ++ record { page = p; count = count } ∷ [] = gone.keeps.notes ∙ r.noted in
          search (
            rules,
            moves,
            failed,
            given-rests p word v y held-on phases.Save last w u,
            runs,
            alone,
            notes,
            come-still x w (gone.keeps.frames ∙ r.locked.frames.0) (gone.keeps.contents ∙ r.locked.frames.1),
            failed-known,
          )

  -- whether it was written or not
  pub written-so : (written : Bool) → EndsWrite p x y (Ok written)
      → Advances phases.Save (p, word) (stages.Shared false) (stages.Shared written) done v x y
  written-so false c = kept-so c
  written-so true c = saved-so c
