-- The steps on a frame's owner word: they change nothing of what a pass knows or holds; that the table allows them,
-- and that they are their events.
use Rattle.vm_event.specs.FrameActs.{frame_of, trans_word}
use Rattle.vm_event.specs.declared.event.Seen.TheVariants as sights
use Rattle.vm_rule.specs.declared.view.WordPlace.TheVariants as places
use Rattle.vm_rule.proofs.Alone.{after-own}
use Rattle.vm_step.proofs.{Fit.fit, Here.frame-inside, Mine.stands-called, Quiet.held-shows, Standing.allows}
use Rattle.vm_step.proofs.{Standing.allows-load, Written.word-left}
use Rattle.vm_event.proofs.OwnerWords.{word-elsewhere, word-written}
use Rattle.vm_step.proofs.Leaves.{works-one, works-then}
use Rattle.vm_step.proofs.Mine.{owner-inside}
use Rattle.vm_step.proofs.steps.Mapping.{install-frames, install-held, install-works}
use Rattle.vm_step.proofs.Prelude.{holdings, [], actor_of, AllowsStep, ap, at-bound, Bool, clean_in, core-still}
use Rattle.vm_step.proofs.Prelude.{core_shown, Did, did_store, Disown, DisownIsItsEvent, each-upd, Event, false}
use Rattle.vm_step.proofs.Prelude.{get_elem?, Held, held_at, index_of, InstallTold, IsOwnerEvent, IsPlacedAt, IsSome}
use Rattle.vm_step.proofs.Prelude.{Kept, KnowsOwner, KnowsOwners, KnowsPage, Legal, length, List, MayOwn, no_held}
use Rattle.vm_step.proofs.Prelude.{None, OLoad, OloadIsItsEvent, Option, Origin, Own, owned, owned_view, owner-here}
use Rattle.vm_step.proofs.Prelude.{owner-step, OwnerLoadTold, OwnerTold, OwnIsItsEvent, put_at, refl, rested, Ruled}
use Rattle.vm_step.proofs.Prelude.{Seat, seat-here, seat_of, seen, slice_set, Some, some, Stands, StandsIn, Start}
use Rattle.vm_step.proofs.Prelude.{State, steps, Stored, subst, sym, Table, TableShape, told_of, true, upd-other}
use Rattle.vm_step.proofs.Prelude.{upd-same, View, without, Works, World, world_after, world_of, ℕ, ◌+◌, ◌<◌, ◌∙◌}
use Rattle.vm_step.proofs.Prelude.{◌∷◌, ◌≡◌, ◌≤◌}
use Rattle.vm_step.proofs.steps.Event.{is-event}

module _ {X B : Type 0} (stored : B → Stored) (keeps : Start → Kept X → Type 0)
    (tied : Start → ℕ → List ℕ → ℕ → List ℕ → Type 0) (start : Origin) (tells : Bool) (s : Table (Option B) (View X))
    (r : Ruled stored keeps tied start tells s)
    (id : ℕ) (v : View X) (there : get_elem? s.views id ≡ some v) (live : v.live ≡ true) where
  abbrev core : State
  core = core_shown stored start s

  module _ (p f : ℕ) (stands : StandsIn v p f) where
    -- the page stands there
    standing : (p < start.pages) × ((core.pages p).trans ≡ Some (record { frame = f; dirty = stands.dirty }))
    standing = stands-called stored keeps tied start tells s r id v there live p (record {
      frame = f;
      dirty = stands.dirty;
    }) (rw stands.owns refl) stands.stands

    pub may-own : MayOwn core id p
    may-own = record {
      names = record { actor = at-bound s.views id v there; page = standing.0 };
      page = record {
        owns = ap (λ (y : Seat). y.exclusive) (seat-here stored start s id p v standing.0 there) ∙ stands.owns;
        resident = subst IsSome (sym standing.1) refl;
      };
    }

module _ {X B : Type 0} (stored : B → Stored) (keeps : Start → Kept X → Type 0)
    (tied : Start → ℕ → List ℕ → ℕ → List ℕ → Type 0) (tells : Bool) where
  -- so every table that stands allows them
  owner-allows : (shape : TableShape) (event : ℕ → ℕ → Event) (slots id : ℕ) (v : View X) (i p f word : ℕ)
      → ((start : Origin) (s : Table (Option B) (View X)) (r : Ruled stored keeps tied start tells s)
      → MayOwn (core_shown stored start s) id p → Legal (core_shown stored start s) (event id p))
      → actor_of (event id p) ≡ id
      → ((old : World) → ((q : ℕ) → old.core.head q ≡ q)
      → world_after old (event id p) ≡ record old { core = owned old.core p word })
      → v.live ≡ true → 0 < length v.used → f < shape.frames → StandsIn v p f → IsPlacedAt shape (places.Owner f) i
      → AllowsStep (Stands stored keeps tied shape tells) slots id v i (λ _. word) (told_of shape tells (λ _. OwnerTold p f word))
  owner-allows shape event slots id v i p f word legal actor is live number lf stands at =
      allows stored keeps tied shape tells slots id v i (places.Owner f) (λ _. word) (λ _. word)
      (λ _. OwnerTold p f word) live at (λ _ _. tt) (λ n. refl) (λ n w t. fit t.brings live number)
      (λ start has s r there _.
      let inside : f < start.frames = subst (λ n. f < n) (sym has.frames) lf in
      let core : State = core_shown stored start s in
      let stood = (standing stored keeps tied start tells s r id v there live p f stands).1 in
      let known = r.known id v there live in
      let did : Did = did_store (places.Owner f) word in
      let words : List ℕ = slice_set s.words (index_of start (places.Owner f)) word in
      let inner : View X = owned_view p word v in
      -- nothing is another but the word
      let led = is (world_of stored start r.releases r.drafts s) (λ _. refl) in
      let k = steps stored keeps tied start tells s r id v words r.drafts [] [] did inner (event id p) there live number actor refl
      (held-shows stored keeps tied start tells s r id v words did inner.held v.frames v.contents (event id p) there
      live (word-left start s.words did word r.wide.0 r.spelled inside refl tt refl)
      (legal start s r (may-own stored keeps tied start tells s r id v there live p f stands))
      (owner-step stored start s r.releases r.drafts id v _ p f word r.wide.0 inside there refl refl refl refl
      (ap frame_of stood) ∙ sym led)
      (ap (λ (y : World). y.core.next) led)
      (ap (λ (y : World). y.core.spares) led)
      (λ q. subst (λ (y : World). KnowsPage (seat_of v q) (put_at no_held inner.held q) (y.core.pages q)) (sym led)
      (each-upd (λ k (h : Held). KnowsPage (seat_of v k) h (core.pages k)) (put_at no_held v.held) p
      (record (held_at v p) {
        owner = word;
      }) (record { calls = (known.knows p).calls; shares = (known.knows p).shares }) (λ k _. known.knows k) q))
      (subst (λ (y : World). KnowsOwners y.core.owners (seat_of v) (put_at no_held inner.held)) (sym led)
      (each-upd (λ k (h : Held). KnowsOwner (owned core p word).owners (seat_of v k) h) (put_at no_held v.held) p
      (record (held_at v p) { owner = word })
      (λ m _ at. sym (ap (λ g. g m.frame)
      (word-written core.owners (core.pages p).trans m word (stood ∙ sym stands.stands ∙ at))
      ∙ upd-same core.owners m.frame word))
      (λ q ne m calls at. known.owners q m calls at
      ∙ sym (word-elsewhere (world_of stored start r.releases r.drafts s) p q word _ m r.inv stood
      (sym ((known.knows q).calls calls).0 ∙ at) ne))))
      (λ g x. known.contents g x ∙ sym (ap (λ (y : World). y.core.words g) led))) in
      (_, k.0, record { brings = k.1 }))

  pub own-allows : (shape : TableShape) (slots id : ℕ) (v : View X) (i p f : ℕ) → v.live ≡ true → 0 < length v.used
      → f < shape.frames → StandsIn v p f → IsPlacedAt shape (places.Owner f) i
      → AllowsStep (Stands stored keeps tied shape tells) slots id v i (λ _. p + 1) (told_of shape tells (λ _. OwnerTold p f (p + 1)))
  own-allows shape slots id v i p f =
      owner-allows shape Own slots id v i p f (p + 1) (λ start s r may. may) refl (λ old own. after-own old own id p)

  pub disown-allows : (shape : TableShape) (slots id : ℕ) (v : View X) (i p f : ℕ) → v.live ≡ true → 0 < length v.used
      → f < shape.frames → StandsIn v p f → IsPlacedAt shape (places.Owner f) i
      → AllowsStep (Stands stored keeps tied shape tells) slots id v i (λ _. 0) (told_of shape tells (λ _. OwnerTold p f 0))
  disown-allows shape slots id v i p f =
      owner-allows shape Disown slots id v i p f 0 (λ start s r may. may) refl (λ old own. refl)

  pub oload-allows : (shape : TableShape) (slots id : ℕ) (v : View X) (i f : ℕ) → v.live ≡ true → 0 < length v.used
      → f < shape.frames → IsPlacedAt shape (places.Owner f) i
      → AllowsStep (Stands stored keeps tied shape tells) slots id v i (λ n. n) (told_of shape tells (OwnerLoadTold f))
  oload-allows shape slots id v i f live number lf at =
      allows-load stored keeps tied shape tells slots id v i (places.Owner f) (OwnerLoadTold f) live at (λ _ _. tt) (λ n w t. fit t.brings live number)
      (λ start has s r there.
      let inside : f < start.frames = subst (λ n. f < n) (sym has.frames) lf in
      let k = rested stored keeps tied start tells s r id v _ (OLoad id f) there live number refl (record {
        actor = at-bound s.views id v there;
        frame = inside;
      }) refl inside refl refl in (
        _,
        k.0,
        record {
          brings = k.1;
          inside = subst (λ n. n ≤ v.start.pages) (owner-here stored start s f inside)
              (owner-inside stored keeps tied start tells s r id v there live f);
        },
      ))

  -- each is its event
  owner-event : (word : ℕ → ℕ) (event : ℕ → ℕ → Event)
      → ((c : State) (id p : ℕ) → MayOwn c id p → Legal c (event id p))
      → ((old : World) (id p : ℕ) → ((q : ℕ) → old.core.head q ≡ q)
      → world_after old (event id p) ≡ record old { core = owned old.core p (word p) })
      → ((c : State) (id p : ℕ) → seen c (event id p) ≡ sights.Done)
      → IsOwnerEvent stored keeps tied tells word event
  owner-event word event legal is sees start s id p f v w pass stands told =
      let view = told.brings.view in
      let inside : f < start.frames = frame-inside stored keeps tied start tells s pass.rule p (record {
        frame = f;
        dirty = stands.dirty;
      }) (standing stored keeps tied start tells s pass.rule id v pass.there pass.live p f stands).1 in
      is-event (legal (core_shown stored start s) id p
      (may-own stored keeps tied start tells s pass.rule id v pass.there pass.live p f stands))
      ((owner-step stored start s [] (λ _. []) id v w p f (word p) pass.rule.wide.0 inside pass.there
      (ap (λ (y : View X). y.out) view) (ap (λ (y : View X). holdings y) view) (ap (λ (y : View X). y.seats) view)
      (ap (λ (y : View X). y.loads) view)
      (ap frame_of (standing stored keeps tied start tells s pass.rule id v pass.there pass.live p f stands).1))
      ∙ sym (is (world_of stored start [] (λ _. []) s) id p (λ _. refl)))
      (sees (core_shown stored start s) id p)

  pub own-event : OwnIsItsEvent stored keeps tied tells
  own-event = owner-event (λ p. p + 1) Own (λ c id p may. may) (λ old id p own. after-own old own id p) (λ c id p. refl)

  pub disown-event : DisownIsItsEvent stored keeps tied tells
  disown-event = owner-event (λ p. 0) Disown (λ c id p may. may) (λ old id p own. refl) (λ c id p. refl)

  pub oload-event : OloadIsItsEvent stored keeps tied tells
  oload-event start s id f found v w pass at told =
      let view = told.brings.view in
      record {
        legal = record { actor = at-bound s.views id v pass.there; frame = at.0 };
        core = core-still stored start s id v w pass.there (ap (λ (y : View X). y.out) view)
            (ap (λ (y : View X). holdings y) view) (ap (λ (y : View X). y.seats) view);
        sees = ap sights.Word (owner-here stored start s f at.0 ∙ sym at.1);
      }

-- ---- what the steps leave

module _ {X : Type 0} {p f word : ℕ} {v w : View X} (t : OwnerTold p f word v w) where
  pub owner-works : Works p (did_store (places.Owner f) word ∷ []) v w
  owner-works = works-one p (did_store (places.Owner f) word) None v _ v.frames v.contents v.out v.notes w
      (λ q ne. upd-other (put_at no_held v.held) p _ q ne) t.brings

  pub owner-held : held_at w p ≡ record (held_at v p) { owner = word }
  owner-held = ap (λ (x : View X). held_at x p) t.brings.view ∙ upd-same (put_at no_held v.held) p _

-- a page is put into a frame of the pass, and owns it then
module _ {X : Type 0} {p f : ℕ} {v i w : View X} (t : InstallTold p f v i) (o : OwnerTold p f (p + 1) i w) where
  abbrev pub settle-did : List Did
  settle-did = did_store (places.Translation p) (trans_word (Some (clean_in f))) ∷ did_store (places.Owner f) (p + 1) ∷ []

  pub settle-works : Works p settle-did v w
  settle-works = works-then p (did_store (places.Translation p) (trans_word (Some (clean_in f))) ∷ [])
      (did_store (places.Owner f) (p + 1) ∷ []) v i w (install-works t) (owner-works o)

  pub settle-held : held_at w p ≡ record (held_at v p) { mapping = Some (clean_in f); owner = p + 1 }
  settle-held = owner-held o ∙ ap (λ (h : Held). record h { owner = p + 1 }) (install-held t)

  pub settle-frames : w.frames ≡ without f v.frames
  settle-frames = ap (λ (x : View X). x.frames) o.brings.view ∙ install-frames t

  pub settle-out : w.out ≡ v.out
  settle-out = ap (λ (x : View X). x.out) o.brings.view ∙ ap (λ (x : View X). x.out) t.brings.view

  pub settle-notes : w.notes ≡ v.notes
  settle-notes = ap (λ (x : View X). x.notes) o.brings.view ∙ ap (λ (x : View X). x.notes) t.brings.view

-- a page stands in the frame that it is to own
pub stands-installed : {X : Type 0} {p f : ℕ} {v i : View X} → (seat_of v p).exclusive ≡ true → InstallTold p f v i
    → StandsIn i p f
stands-installed {X} {p} {f} {v} {i} owns t = record {
  owns = ap (λ (x : View X). (seat_of x p).exclusive) t.brings.view ∙ owns;
  dirty = false;
  stands = ap (λ (h : Held). h.mapping) (install-held t);
}
