-- A step on the translation word of a page that the pass has locked: what it shows of itself, and tells of where the
-- page stands; that the table allows it,
-- and that it is its event.
--
-- What a page leaves that is made dirty in its frame, or clean: the step works on that page, which is locked meanwhile.
--
-- What a page leaves that is put into a frame of the pass, or taken out of its frame: the steps work on that page,
-- which is locked meanwhile.
use Rattle.vm_event.specs.declared.event.Seen.TheVariants as sights
use Rattle.vm_event.proofs.Alone.{alone-named}
use Rattle.vm_rule.specs.declared.view.WordPlace.TheVariants as places
use Rattle.vm_rule.proofs.Facts.{has-left}
use Rattle.vm_step.proofs.{Fit.fit, Here.frame-inside, Leaves.works-one, Mine.owner-known, Mine.stands-called}
use Rattle.vm_step.proofs.{Quiet.held-shows, Standing.allows, Written.spelled-now, Written.stands-there}
use Rattle.vm_step.proofs.Prelude.{holdings, [], actor_of, after_step, AllowsStep, ap, arith, at-bound, became, Bool}
use Rattle.vm_step.proofs.Prelude.{Brings, cases_eq, Clean, clean-step, clean_in, clean_view, CleanTold, Clear}
use Rattle.vm_step.proofs.Prelude.{clear-step, cleared_view, ClearTold, core_shown, Did, did_store, Dirty, dirty-step}
use Rattle.vm_step.proofs.Prelude.{dirty_in, dirty_view, DirtyTold, each-upd, each-upd2, either-way, eq-eqb, Event}
use Rattle.vm_step.proofs.Prelude.{false, false_from_ne_true, frame_in, gains, get_elem?, has, has-without, HasShape}
use Rattle.vm_step.proofs.Prelude.{Held, held-here, held_at, if◌then◌else◌, index_of, inr, Install, install-step}
use Rattle.vm_step.proofs.Prelude.{installed_view, InstallTold, is_dirty, is_pending, IsEvent, IsFit, IsPassOf}
use Rattle.vm_step.proofs.Prelude.{IsPlacedAt, IsSome, IsWritten, Kept, KnowsOwner, KnowsOwners, KnowsPage}
use Rattle.vm_step.proofs.Prelude.{KnowsPages, Legal, length, length-set, List, LOCKED, Mapping, mapping-clean}
use Rattle.vm_step.proofs.Prelude.{mapping-dirty, mapping-none, mapping_at, mapping_of, may_call, MayPutInto, nat_lt}
use Rattle.vm_step.proofs.Prelude.{nat_tests, ne_eqb, no_held, None, none-some, Option, or_right, Origin, Page, Put}
use Rattle.vm_step.proofs.Prelude.{put, put_at, refl, Ruled, Seat, seat-here, seat_of, shared-here, Shows, slice_set}
use Rattle.vm_step.proofs.Prelude.{Some, some, some-same, TableShape, Stands, stands-nowhere, stands_in, StandsClean}
use Rattle.vm_step.proofs.Prelude.{StandsIn, Start, State, steps, Stored, subst, sym, Table, table_after, told_of}
use Rattle.vm_step.proofs.Prelude.{trans_word, translation-here, true, true≢false, upd, upd-other, upd-same, Version}
use Rattle.vm_step.proofs.Prelude.{View, with_dirty, without, Works, World, world_after, world_of, ℕ, ⊎_elim, ◌%◌}
use Rattle.vm_step.proofs.Prelude.{◌+◌, ◌-◌, ◌<◌, ◌==◌, ◌^◌, ◌||◌, ◌∙◌, ◌∷◌, ◌≡◌, ◌≢◌, ◌≤◌}
use Rattle.vm_step.proofs.steps.Event.{is-event}
use Rattle.vm_step.proofs.steps.Leaving.{apart, LeavesOthers, others-tied}

-- the word of a page's translation says it
pub fits : (f : ℕ) (dirty : Bool) → f < 2 ^ 32 → mapping_of (trans_word (Some (record {
  frame = f;
  dirty = dirty;
}))) ≡ Some (record { frame = f; dirty = dirty })
fits f true small = mapping-dirty f small
fits f false small = let e : f + 1 + 0 ≡ f + 1 = omega arith in ap mapping_of e ∙ mapping-clean f small

-- another number than the first stands behind it
has-other : (g f : ℕ) (l : List ℕ) → g ≢ f → has g (f ∷ l) ≡ has g l
has-other g f l ne = rw (ne_eqb g f ne) refl

-- the frame that a word names has 32 bits
named-small : (b : Bool) (low f : ℕ) (dirty was : Bool) → (low == 0 || nat_lt (2 ^ 32) low) ≡ b
    → mapping_at (if b then None else Some (low - 1)) dirty ≡ Some (record { frame = f; dirty = was }) → f < 2 ^ 32
named-small true low f dirty was test e = absurd (cc)
named-small false low f dirty was test e =
    let frame : low - 1 ≡ f = ap (λ (y : Mapping). y.frame) (some-same (record {
      frame = low - 1;
      dirty = dirty;
    }) (record { frame = f; dirty = was }) e) in
    grind (arith, nat_tests, test, frame)

frame-small : (word f : ℕ) (was : Bool) → mapping_of word ≡ Some (record { frame = f; dirty = was }) → f < 2 ^ 32
unfolding frame_in
frame-small word f was e = named-small (word % 2 ^ 63 == 0 || nat_lt (2 ^ 32) (word % 2 ^ 63)) (word % 2 ^ 63) f (is_dirty word) was refl e

-- the page stands in this frame
abbrev in_frame : ℕ → Bool → Option Mapping
in_frame f dirty = Some (record { frame = f; dirty = dirty })

module _ {X B : Type 0} (stored : B → Stored) (keeps : Start → Kept X → Type 0)
    (tied : Start → ℕ → List ℕ → ℕ → List ℕ → Type 0) (start : Origin) (tells : Bool) (s : Table (Option B) (View X))
    (r : Ruled stored keeps tied start tells s) (id : ℕ) (v : View X) (p : ℕ) where
  abbrev pub core : State
  core = core_shown stored start s

  abbrev pub old : World
  old = world_of stored start r.releases r.drafts s

  -- the words of the table with this translation of the page
  abbrev pub words_with : Option Mapping → List ℕ
  words_with t = slice_set s.words (index_of start (places.Translation p)) (trans_word t)

  -- the view that says so, with these frames
  abbrev held_with : Option Mapping → ℕ → Held
  held_with t owner = record (held_at v p) { mapping = t; owner = owner }

  abbrev pub view_with : Option Mapping → ℕ → List ℕ → List (Put (List ℕ)) → View X
  view_with t owner frames contents = record v { held = put p (held_with t owner) v.held; frames = frames; contents = contents }

  abbrev pub view_then : Option Mapping → View X → View X
  view_then t inner = after_step stored keeps tied start tells s r (words_with t) [] []
      (did_store (places.Translation p) (trans_word t)) inner

  module _ (there : get_elem? s.views id ≡ some v) (live : v.live ≡ true) where
    pub known : KnowsPages tied start old (is_pending s.views) v
    known = r.known id v there live

    -- the page with another translation is as the pass knows it then
    knows-mapped : (t : Option Mapping) (owner q : ℕ)
        → KnowsPage (seat_of v q) (upd (put_at no_held v.held) p (held_with t owner) q)
        (upd core.pages p (record (core.pages p) { trans = t }) q)
    knows-mapped t owner =
        each-upd2 (λ q (h : Held) (y : Page). KnowsPage (seat_of v q) h y) (put_at no_held v.held) core.pages p
        (held_with t owner) (record (core.pages p) { trans = t })
        (record { calls = λ x. let k = (known.knows p).calls x in (refl, k.1, k.2, k.3); shares = λ _. refl })
        (λ q _. known.knows q)

    -- the step shows itself, where it is this event and the pass knows the words of the frames that it holds then
    pub mapping-shows : (l : p < start.pages) (t : Option Mapping) (owner : ℕ) (frames : List ℕ)
        (contents : List (Put (List ℕ))) (e : Event) → mapping_of (trans_word t) ≡ t → Legal core e
        → world_of stored start r.releases r.drafts
        (became stored keeps tied start tells s (words_with t) id
        (view_then t (view_with t owner frames contents))) ≡ world_after old e
        → (world_after old e).core.pages ≡ upd core.pages p (record (core.pages p) { trans = t })
        → (world_after old e).core.next ≡ core.next
        → (world_after old e).core.spares ≡ core.spares
        → (world_after old e).core.owners ≡ core.owners
        → KnowsOwner core.owners (seat_of v p) (held_with t owner)
        → ((f : ℕ) → has f frames ≡ true → put_at [] contents f ≡ (world_after old e).core.words f)
        → Shows stored keeps tied start tells s r id v (words_with t) r.drafts [] []
        (did_store (places.Translation p) (trans_word t)) (view_with t owner frames contents) e
    mapping-shows l t owner frames contents e fits legal world pages next spares owners here words =
        held-shows stored keeps tied start tells s r id v (words_with t)
        (did_store (places.Translation p) (trans_word t)) (put p (held_with t owner) v.held) frames contents e
        there live
        (record {
          wide = length-set s.words (index_of start (places.Translation p)) (trans_word t) ∙ r.wide.0;
          spelled = spelled-now start s.words p t r.wide.0 l fits r.spelled;
          at = l;
          found = tt;
          wrote = stands-there start s.words (places.Translation p) (trans_word t) r.wide.0 l;
        })
        legal world next spares
        (λ q. subst (λ (y : ℕ → Page). KnowsPage (seat_of v q) (upd (put_at no_held v.held) p (held_with t owner) q)
        (y q)) (sym pages) (knows-mapped t owner q))
        (subst (λ (o : ℕ → ℕ). KnowsOwners o (seat_of v) (upd (put_at no_held v.held) p (held_with t owner)))
        (sym owners) (each-upd (λ q (h : Held). KnowsOwner core.owners (seat_of v q) h) (put_at no_held v.held) p
        (held_with t owner) here (λ q _. known.owners q)))
        words

    -- ---- a page is put into a frame of the pass

    module _ (f : ℕ) (may : MayPutInto v p f) where
      pub install-legal : p < start.pages → f < start.frames → Legal core (Install id p f)
      install-legal l lf =
          let calls : may_call (seat_of v p) ≡ true = rw may.owns refl in
          let k = (known.knows p).calls calls in
          record {
            names = record { actor = at-bound s.views id v there; page = l };
            frame = lf;
            holds = held-here stored start s id f v there ∙ may.holds;
            page = record {
              owns = ap (λ (y : Seat). y.exclusive) (seat-here stored start s id p v l there) ∙ may.owns;
              empty = sym k.0 ∙ may.empty;
              loaded = λ t. sym (known.contents f may.holds)
                  ∙ may.loaded (ap (λ (o : Origin). o.tells) (r.heard id v there live).same_start ∙ t) ∙ k.2;
            };
          }

      -- a frame of the pass is no page's, so its owner word names none
      unowned : core.owners f ≡ 0
      unowned =
          ⊎_elim (λ e. e)
          (λ ne. absurd (true≢false
          (sym (alone-named core (λ _. refl) r.inv.owners f (core.owners f - 1) (omega (arith, ne)))
          ∙ stands-nowhere old f id (core.owners f - 1) r.inv
          (held-here stored start s id f v there ∙ may.holds))))
          (cases_eq (core.owners f) 0)

      pub install-shows : p < start.pages → f < start.frames → f < 2 ^ 32
          → Shows stored keeps tied start tells s r id v (words_with (Some (clean_in f))) r.drafts [] []
          (did_store (places.Translation p) (trans_word (Some (clean_in f)))) (installed_view p f v)
          (Install id p f)
      install-shows l lf small =
          let t : Option Mapping = Some (clean_in f) in
          let inner : View X = installed_view p f v in
          mapping-shows l t 0 (without f v.frames) v.contents (Install id p f) (fits f false small) (install-legal l lf)
          (install-step stored start s r.releases r.drafts id v (view_then t inner) p f (trans_word t) r.wide.0 l
          there refl refl refl refl (fits f false small) (λ h. has-left f h v.frames))
          refl refl refl refl (λ m _ at. sym unowned ∙ ap (λ (y : Mapping). core.owners y.frame) (some-same (clean_in f) m at))
          (λ g x. known.contents g (has-without f g v.frames x))

    -- ---- a clean page is taken out of its frame

    module _ (f : ℕ) (stands : StandsClean v p f) where
      pub clear-known : (p < start.pages) × ((core.pages p).trans ≡ Some (clean_in f))
      clear-known = stands-called stored keeps tied start tells s r id v there live p (clean_in f) (rw stands.owns refl) stands.stands

      pub clear-legal : Legal core (Clear id p)
      clear-legal = (
        record { actor = at-bound s.views id v there; page = clear-known.0 },
        (
          f,
          record {
            owns = ap (λ (y : Seat). y.exclusive) (seat-here stored start s id p v clear-known.0 there) ∙ stands.owns;
            stands = clear-known.1;
          },
        ),
        owner-known stored keeps tied start tells s r id v there live p 0 (rw stands.owns refl) stands.disowned,
      )

      -- the frames held, with the one that comes
      pub frames-gained : (h : ℕ) → has h (f ∷ v.frames) ≡ gains (λ k. has k v.frames) (core.pages p).trans h
      unfolding upd
      frames-gained h = either-way (h == f) (has h v.frames) ∙ ap (λ o. gains (λ k. has k v.frames) o h) (sym clear-known.1)

      pub clear-shows : Shows stored keeps tied start tells s r id v (words_with None) r.drafts [] []
          (did_store (places.Translation p) (trans_word None)) (cleared_view p f (core.words f) v) (Clear id p)
      clear-shows =
          let inner : View X = cleared_view p f (core.words f) v in
          mapping-shows clear-known.0 None (held_at v p).owner (f ∷ v.frames) (put f (core.words f) v.contents)
          (Clear id p) mapping-none clear-legal
          (clear-step stored start s r.releases r.drafts id v (view_then None inner) p 0 r.wide.0 clear-known.0 there
          refl refl refl refl mapping-none frames-gained)
          refl refl refl refl (λ m _ at. absurd (none-some m at))
          (each-upd (λ g l. has g (f ∷ v.frames) ≡ true → l ≡ core.words g) (put_at [] v.contents) f (core.words f)
          (λ _. refl) (λ g ne x. known.contents g (sym (has-other g f v.frames ne) ∙ x)))

      -- it tells of the one frame that the page can stand in
      pub clear-told : Brings (did_store (places.Translation p) (trans_word None)) [] [] v
          (cleared_view p f (core.words f) v) (view_then None (cleared_view p f (core.words f) v))
          → (g : ℕ) → StandsClean v p g → ClearTold p g v (view_then None (cleared_view p f (core.words f) v))
      clear-told brings g also =
          let w : View X = view_then None (cleared_view p f (core.words f) v) in
          let calls : may_call (seat_of v p) ≡ true = rw stands.owns refl in
          let told : ClearTold p f v w = record {
            words = core.words f;
            brings = brings;
            size = r.inv.words f ∙ sym (ap (λ (o : Origin). o.size) (r.heard id v there live).same_start);
            stood = λ t. ((r.inv.pages p).contents
                (sym (ap (λ (o : Origin). o.tells) (r.heard id v there live).same_start) ∙ t)).clean (clean_in f)
                clear-known.1 refl ∙ sym ((known.knows p).calls calls).2;
            inside = subst (λ (o : Origin). f < o.frames) (sym (r.heard id v there live).same_start)
                (frame-inside stored keeps tied start tells s r p (clean_in f) clear-known.1);
            new = false_from_ne_true (has f v.frames)
                (λ mine. true≢false (sym (ap (λ o. stands_in o f) clear-known.1 ∙ eq-eqb f f refl)
                ∙ stands-nowhere old f id p r.inv (held-here stored start s id f v there ∙ mine)));
          } in
          subst (λ h. ClearTold p h v w)
          (ap (λ (y : Mapping). y.frame) (some-same (clean_in f) (clean_in g) (sym stands.stands ∙ also.stands)))
          told

    -- the word that is written says so of the frame that it stands in
    pub remaps : (f : ℕ) (was dirty : Bool) → p < start.pages → (core.pages p).trans ≡ in_frame f was
        → (mapping_of (trans_word (in_frame f dirty)) ≡ in_frame f dirty)
        × (mapping_of (trans_word (in_frame f dirty)) ≡ with_dirty dirty (core.pages p).trans)
    remaps f was dirty l stood =
        let says : mapping_of (trans_word (in_frame f dirty)) ≡ in_frame f dirty =
        fits f dirty (frame-small _ f was (sym (translation-here stored start s p l) ∙ stood)) in
        (says, says ∙ sym (ap (with_dirty dirty) stood))

    -- it stays in its frame
    remapped-shows : (f : ℕ) (was dirty : Bool) (e : Event) → p < start.pages → (core.pages p).trans ≡ in_frame f was
        → Legal core e
        → (mapping_of (trans_word (in_frame f dirty)) ≡ with_dirty dirty (core.pages p).trans
        → world_of stored start r.releases r.drafts
        (became stored keeps tied start tells s (words_with (in_frame f dirty)) id
        (view_then (in_frame f dirty) (view_with (in_frame f dirty) (held_at v p).owner v.frames v.contents)))
        ≡ world_after old e)
        → (world_after old e).core.pages ≡ upd core.pages p (record (core.pages p) { trans = with_dirty dirty (core.pages p).trans })
        → (world_after old e).core.next ≡ core.next
        → (world_after old e).core.spares ≡ core.spares
        → (world_after old e).core.owners ≡ core.owners
        → (held_at v p).mapping ≡ in_frame f was
        → ((g : ℕ) → (world_after old e).core.words g ≡ core.words g)
        → Shows stored keeps tied start tells s r id v (words_with (in_frame f dirty)) r.drafts [] []
        (did_store (places.Translation p) (trans_word (in_frame f dirty)))
        (view_with (in_frame f dirty) (held_at v p).owner v.frames v.contents) e
    remapped-shows f was dirty e l stood legal world pages next spares owners held words =
        let says = remaps f was dirty l stood in
        mapping-shows l (in_frame f dirty) (held_at v p).owner v.frames v.contents e says.0 legal (world says.1)
        (pages ∙ ap (λ o. upd core.pages p (record (core.pages p) { trans = o })) (ap (with_dirty dirty) stood))
        next spares owners
        (λ m calls at. known.owners p (record {
          frame = f;
          dirty = was;
        }) calls held ∙ ap (λ (y : Mapping). core.owners y.frame) (some-same (record { frame = f; dirty = dirty }) m at))
        (λ g x. known.contents g x ∙ sym (words g))

    module _ (f : ℕ) (stands : StandsIn v p f) where
      pub dirty-known : (p < start.pages) × ((core.pages p).trans ≡ in_frame f stands.dirty)
      dirty-known = stands-called stored keeps tied start tells s r id v there live p (record {
        frame = f;
        dirty = stands.dirty;
      }) (rw stands.owns refl) stands.stands

      pub dirty-legal : Legal core (Dirty id p)
      dirty-legal = (
        record { actor = at-bound s.views id v there; page = dirty-known.0 },
        record {
          owns = ap (λ (y : Seat). y.exclusive) (seat-here stored start s id p v dirty-known.0 there) ∙ stands.owns;
          resident = subst IsSome (sym dirty-known.1) refl;
        },
      )

      pub dirty-shows : Shows stored keeps tied start tells s r id v (words_with (Some (dirty_in f))) r.drafts [] []
          (did_store (places.Translation p) (trans_word (Some (dirty_in f)))) (dirty_view p f v) (Dirty id p)
      dirty-shows =
          remapped-shows f stands.dirty true (Dirty id p) dirty-known.0 dirty-known.1 dirty-legal
          (dirty-step stored start s r.releases r.drafts id v (view_then (Some (dirty_in f)) (dirty_view p f v)) p
          (trans_word (Some (dirty_in f))) r.wide.0 dirty-known.0 there refl refl refl refl)
          refl refl refl refl stands.stands (λ g. refl)

    module _ (f : ℕ) (may : IsWritten v p f) where
      -- the pass has a share of it, so it is not locked and its last words stand in its frame
      pub clean-known : (p < start.pages) × ((core.pages p).trans ≡ in_frame f may.dirty)
      clean-known = stands-called stored keeps tied start tells s r id v there live p (record {
        frame = f;
        dirty = may.dirty;
      }) (or_right (seat_of v p).exclusive (seat_of v p).writing may.writes) may.stands

      writes-here : ((core.pages p).seats id).writing ≡ true
      writes-here = ap (λ (y : Seat). y.writing) (seat-here stored start s id p v clean-known.0 there) ∙ may.writes

      shares : 1 ≤ (seat_of v p).shares
      shares = subst (λ (y : Seat). 1 ≤ y.shares) (seat-here stored start s id p v clean-known.0 there)
          ((r.inv.pages p).locks.writer id writes-here).0

      stored-words : start.tells ≡ true → (core.pages p).block ≡ core.words f
      stored-words t =
          let unlocked : (core.pages p).state ≢ LOCKED =
          (λ e. let below : (core.pages p).state < LOCKED =
          (shared-here stored start s id p v (r.inv.pages p).locks clean-known.0 there shares).1 in
          omega (arith, below, e)) in
          sym ((known.knows p).calls (or_right (seat_of v p).exclusive (seat_of v p).writing may.writes)).2
          ∙ may.stored (ap (λ (o : Origin). o.tells) (r.heard id v there live).same_start ∙ t)
          ∙ ap (λ (y : Version). y.words) (known.latest p (inr shares))
          ∙ sym (((r.inv.pages p).contents t).logical unlocked (record { frame = f; dirty = may.dirty }) clean-known.1)

      pub clean-legal : Legal core (Clean id p)
      clean-legal = (
        record { actor = at-bound s.views id v there; page = clean-known.0 },
        record {
          writes = writes-here;
          resident = subst IsSome (sym clean-known.1) refl;
          stored = λ t m e. stored-words t ∙ ap core.words (ap (λ (y : Mapping). y.frame) (some-same (record {
            frame = f;
            dirty = may.dirty;
          }) m (sym clean-known.1 ∙ e)));
        },
      )

      pub clean-shows : Shows stored keeps tied start tells s r id v (words_with (Some (clean_in f))) r.drafts [] []
          (did_store (places.Translation p) (trans_word (Some (clean_in f)))) (clean_view p f v) (Clean id p)
      clean-shows =
          remapped-shows f may.dirty false (Clean id p) clean-known.0 clean-known.1 clean-legal
          (clean-step stored start s r.releases r.drafts id v (view_then (Some (clean_in f)) (clean_view p f v)) p
          (trans_word (Some (clean_in f))) r.wide.0 clean-known.0 there refl refl refl refl)
          refl refl refl refl may.stands (λ g. refl)

module _ {X B : Type 0} (stored : B → Stored) (keeps : Start → Kept X → Type 0)
    (tied : Start → ℕ → List ℕ → ℕ → List ℕ → Type 0) (tells : Bool) (shape : TableShape) (slots id : ℕ) (v : View X)
    (i : ℕ) (p x : ℕ) (live : v.live ≡ true) (number : 0 < length v.used)
    (is : IsPlacedAt shape (places.Translation p) i) where
  -- the step that leaves this word is allowed on every table that stands, where on each that meets the rule it shows
  -- this event, and tells what it is to tell
  mapping-allows : (t : Option Mapping) (event : Event) (Told : View X → View X → Type 0) → actor_of event ≡ id
      → x ≡ trans_word t → ((w : View X) → Told v w → IsFit w)
      → ((start : Origin) → HasShape shape start
      → (s : Table (Option B) (View X)) (r : Ruled stored keeps tied start tells s)
      → get_elem? s.views id ≡ some v
      → (inner : View X) × Shows stored keeps tied start tells s r id v
      (words_with stored keeps tied start tells s r id v p t) r.drafts [] []
      (did_store (places.Translation p) (trans_word t)) inner event
      × (Brings (did_store (places.Translation p) (trans_word t)) [] [] v inner
      (view_then stored keeps tied start tells s r id v p t inner)
      → Told v (view_then stored keeps tied start tells s r id v p t inner)))
      → AllowsStep (Stands stored keeps tied shape tells) slots id v i (λ _. x) (told_of shape tells (λ _. Told))
  mapping-allows t event Told actor spells fits shows =
      allows stored keeps tied shape tells slots id v i (places.Translation p) (λ _. x) (λ _. trans_word t)
      (λ _. Told) live is (λ _ _. tt) (λ _. spells) (λ _. fits)
      (λ start has s r there _.
      let m = shows start has s r there in
      let k = steps stored keeps tied start tells s r id v (words_with stored keeps tied start tells s r id v p t)
      r.drafts [] [] (did_store (places.Translation p) (trans_word t)) m.0 event there live number actor refl
      m.1 in
      (view_then stored keeps tied start tells s r id v p t m.0, k.0, m.2 k.1))

  pub install-allows : (f : ℕ) → p < shape.pages → f < shape.frames → f < 2 ^ 32 → MayPutInto v p f
      → x ≡ trans_word (Some (clean_in f)) → AllowsStep (Stands stored keeps tied shape tells) slots id v i (λ _. x)
      (told_of shape tells (λ _. InstallTold p f))
  install-allows f l lf small may spells =
      mapping-allows (Some (clean_in f)) (Install id p f) (InstallTold p f) refl spells (λ w t. fit t.brings live number)
      (λ start has s r there. (
        _,
        install-shows stored keeps tied start tells s r id v p there live f may
            (subst (λ n. p < n) (sym has.pages) l) (subst (λ n. f < n) (sym has.frames) lf) small,
        λ b.
            record { brings = b },
      ))

  pub clear-allows : (f : ℕ) → StandsClean v p f → x ≡ trans_word None
      → AllowsStep (Stands stored keeps tied shape tells) slots id v i (λ _. x)
      (told_of shape tells (λ _ v w. (g : ℕ) → StandsClean v p g → ClearTold p g v w))
  clear-allows f stands spells =
      mapping-allows None (Clear id p) (λ v w. (g : ℕ) → StandsClean v p g → ClearTold p g v w) refl spells
      (λ w t. fit (t f stands).brings live number)
      (λ start has s r there. (
        _,
        clear-shows stored keeps tied start tells s r id v p there live f stands,
        clear-told stored keeps tied
            start tells s r id v p there live f stands,
      ))

  pub set_dirty-allows : (f : ℕ) → StandsIn v p f → x ≡ trans_word (Some (dirty_in f))
      → AllowsStep (Stands stored keeps tied shape tells) slots id v i (λ _. x)
      (told_of shape tells (λ _. DirtyTold p f))
  set_dirty-allows f stands spells =
      mapping-allows (Some (dirty_in f)) (Dirty id p) (DirtyTold p f) refl spells (λ w t. fit t.brings live number)
      (λ start has s r there. (_, dirty-shows stored keeps tied start tells s r id v p there live f stands, λ b. record { brings = b }))

  pub set_clean-allows : (f : ℕ) → IsWritten v p f → x ≡ trans_word (Some (clean_in f))
      → AllowsStep (Stands stored keeps tied shape tells) slots id v i (λ _. x)
      (told_of shape tells (λ _. CleanTold p f))
  set_clean-allows f may spells =
      mapping-allows (Some (clean_in f)) (Clean id p) (CleanTold p f) refl spells (λ w t. fit t.brings live number)
      (λ start has s r there. (_, clean-shows stored keeps tied start tells s r id v p there live f may, λ b. record { brings = b }))

module _ {X B : Type 0} (stored : B → Stored) (start : Origin) (keeps : Start → Kept X → Type 0)
    (tied : Start → ℕ → List ℕ → ℕ → List ℕ → Type 0) (tells : Bool) (s : Table (Option B) (View X)) (id p f : ℕ)
    (v w : View X) (pass : IsPassOf stored start keeps tied tells s id v) where
  -- the table with this translation of the page
  abbrev then_with : Option Mapping → Table (Option B) (View X)
  then_with t = table_after s (slice_set s.words (index_of start (places.Translation p)) (trans_word t)) id w

  pub install-event : p < start.pages → f < start.frames → f < 2 ^ 32 → MayPutInto v p f → InstallTold p f v w
      → IsEvent stored start s (then_with (Some (clean_in f))) (Install id p f) sights.Done
  install-event l lf small may told =
      let view = told.brings.view in
      is-event (install-legal stored keeps tied start tells s pass.rule id v p pass.there pass.live f may l lf)
      (install-step stored start s [] (λ _. []) id v w p f (trans_word (Some (clean_in f))) pass.rule.wide.0 l
      pass.there (ap (λ (y : View X). y.out) view) (ap (λ (y : View X). y.numbers) view)
      (ap (λ (y : View X). y.seats) view) (ap (λ (y : View X). y.loads) view)
      (fits f false small) (λ h. ap (λ (y : View X). has h y.frames) view ∙ has-left f h v.frames))
      refl

  pub clear-event : StandsClean v p f → ClearTold p f v w
      → IsEvent stored start s (then_with None) (Clear id p) sights.Done
  clear-event stands told =
      let view = told.brings.view in
      is-event (clear-legal stored keeps tied start tells s pass.rule id v p pass.there pass.live f stands)
      (clear-step stored start s [] (λ _. []) id v w p 0 pass.rule.wide.0
      (clear-known stored keeps tied start tells s pass.rule id v p pass.there pass.live f stands).0 pass.there
      (ap (λ (y : View X). y.out) view) (ap (λ (y : View X). y.numbers) view) (ap (λ (y : View X). y.seats) view)
      (ap (λ (y : View X). y.loads) view)
      mapping-none (λ h. ap (λ (y : View X). has h y.frames) view ∙ frames-gained stored keeps tied start tells s
      pass.rule id v p pass.there pass.live f stands h))
      refl

  pub set_dirty-event : StandsIn v p f → DirtyTold p f v w
      → IsEvent stored start s (then_with (Some (dirty_in f))) (Dirty id p) sights.Done
  set_dirty-event stands told =
      let view = told.brings.view in
      let known = dirty-known stored keeps tied start tells s pass.rule id v p pass.there pass.live f stands in
      is-event (dirty-legal stored keeps tied start tells s pass.rule id v p pass.there pass.live f stands)
      (dirty-step stored start s [] (λ _. []) id v w p (trans_word (Some (dirty_in f))) pass.rule.wide.0 known.0
      pass.there (ap (λ (y : View X). y.out) view) (ap (λ (y : View X). holdings y) view)
      (ap (λ (y : View X). y.seats) view) (ap (λ (y : View X). y.loads) view)
      (remaps stored keeps tied start tells s pass.rule id v p pass.there pass.live f stands.dirty true known.0 known.1).1)
      refl

  pub set_clean-event : IsWritten v p f → CleanTold p f v w → IsEvent stored start s (then_with (Some (clean_in f)))
      (Clean id p) sights.Done
  set_clean-event may told =
      let view = told.brings.view in
      let known = clean-known stored keeps tied start tells s pass.rule id v p pass.there pass.live f may in
      is-event (clean-legal stored keeps tied start tells s pass.rule id v p pass.there pass.live f may)
      (clean-step stored start s [] (λ _. []) id v w p (trans_word (Some (clean_in f))) pass.rule.wide.0 known.0
      pass.there (ap (λ (y : View X). y.out) view) (ap (λ (y : View X). holdings y) view)
      (ap (λ (y : View X). y.seats) view) (ap (λ (y : View X). y.loads) view)
      (remaps stored keeps tied start tells s pass.rule id v p pass.there pass.live f may.dirty false known.0 known.1).1)
      refl

module _ {X : Type 0} {p f : ℕ} {v w : View X} (t : DirtyTold p f v w) where
  pub dirty-others : (touched : ℕ → Type 0) → touched p
      → LeavesOthers touched (did_store (places.Translation p) (trans_word (Some (dirty_in f))) ∷ []) [] v w
  dirty-others touched at = others-tied t.brings ([], refl) tt (λ q ne. refl) (λ q ne. refl)
      (λ q ne. upd-other (put_at no_held v.held) p _ q (apart touched at q ne)) (λ q ne. refl)

  pub dirty-works : Works p (did_store (places.Translation p) (trans_word (Some (dirty_in f))) ∷ []) v w
  dirty-works = works-one p (did_store (places.Translation p) (trans_word (Some (dirty_in f)))) None v _ v.frames
      v.contents v.out v.notes w (λ q ne. upd-other (put_at no_held v.held) p _ q ne) t.brings

  pub dirty-held : held_at w p ≡ record (held_at v p) { mapping = Some (dirty_in f) }
  dirty-held = ap (λ (x : View X). held_at x p) t.brings.view ∙ upd-same (put_at no_held v.held) p _

module _ {X : Type 0} {p f : ℕ} {v w : View X} (t : CleanTold p f v w) where
  pub clean-works : Works p (did_store (places.Translation p) (trans_word (Some (clean_in f))) ∷ []) v w
  clean-works = works-one p (did_store (places.Translation p) (trans_word (Some (clean_in f)))) None v _ v.frames
      v.contents v.out v.notes w (λ q ne. upd-other (put_at no_held v.held) p _ q ne) t.brings

  pub clean-held : held_at w p ≡ record (held_at v p) { mapping = Some (clean_in f) }
  clean-held = ap (λ (x : View X). held_at x p) t.brings.view ∙ upd-same (put_at no_held v.held) p _

module _ {X : Type 0} {p f : ℕ} {v w : View X} (t : InstallTold p f v w) where
  abbrev pub install-did : Did
  install-did = did_store (places.Translation p) (trans_word (Some (clean_in f)))

  pub install-works : Works p (install-did ∷ []) v w
  install-works = works-one p install-did None v _ _ v.contents v.out v.notes w
      (λ q ne. upd-other (put_at no_held v.held) p _ q ne) t.brings

  pub install-held : held_at w p ≡ record (held_at v p) { mapping = Some (clean_in f); owner = 0 }
  install-held = ap (λ (x : View X). held_at x p) t.brings.view ∙ upd-same (put_at no_held v.held) p _

  pub install-frames : w.frames ≡ without f v.frames
  install-frames = ap (λ (x : View X). x.frames) t.brings.view

module _ {X : Type 0} {p f : ℕ} {v w : View X} (t : ClearTold p f v w) where
  pub clear-works : Works p (did_store (places.Translation p) (trans_word None) ∷ []) v w
  clear-works = works-one p (did_store (places.Translation p) (trans_word None)) None v _ _ _ v.out v.notes w
      (λ q ne. upd-other (put_at no_held v.held) p _ q ne) t.brings

  pub clear-held : held_at w p ≡ record (held_at v p) { mapping = None }
  clear-held = ap (λ (x : View X). held_at x p) t.brings.view ∙ upd-same (put_at no_held v.held) p _
