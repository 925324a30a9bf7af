-- A word of a frame that is loaded for a page, or stored into a page's frame or one that the pass holds: what each
-- shows of itself and tells; that the
-- table allows them, and that they are their events.
--
-- What a store leaves: into the frame of a page that is held exclusively, of whose draft it speaks; or into a frame
-- of the pass, of whose words it
-- speaks.
--
-- What a load of a word of a frame leaves: it speaks of the words that were loaded through the open read of one page.
use Rattle.vm_event.specs.declared.event.Seen.TheVariants as sights
use Rattle.vm_rule.specs.declared.view.WordPlace.TheVariants as places
use Rattle.vm_step.proofs.{Fit.fit, Mine.member-mine, Mine.stands-known, Quiet.held-shows, Quiet.quiet-shows}
use Rattle.vm_step.proofs.{Standing.allows, Standing.allows-load, Written.word-left, Written.word-loaded}
use Rattle.vm_step.proofs.Prelude.{holdings, [], after_step, AllowsStep, ap, arith, at-bound, Bool, Brings, cases_eq}
use Rattle.vm_step.proofs.Prelude.{content-here, core_shown, Did, did_load, did_store, draft-is, draft_of}
use Rattle.vm_step.proofs.Prelude.{drafted_view, Drafts, each-upd2, eq-eqb, EVICTED, false, fill-step, filled_view}
use Rattle.vm_step.proofs.Prelude.{FillIsItsEvent, frame_of, frame_read_by, get_elem?, has, Held, held-here, held_at}
use Rattle.vm_step.proofs.Prelude.{HoldsPage, if◌then◌else◌, index_of, inl, inr, is_pending, is_some, IsLocking}
use Rattle.vm_step.proofs.Prelude.{IsPlacedAt, IsSome, Kept, KnowsAsBefore, KnowsPage, KnowsPages, last_of, Legal}
use Rattle.vm_step.proofs.Prelude.{length, List, Load, load-step, load_frame, loaded_view, LoadIsItsEvent, loads_at}
use Rattle.vm_step.proofs.Prelude.{loads_more, LoadTold, LOCKED, locked-here, lt-ltb, ltb-true, Mapping, nat_lt}
use Rattle.vm_step.proofs.Prelude.{no_held, None, Open, open_frame, Option, or_cases, or_left, or_right, Origin, Page}
use Rattle.vm_step.proofs.Prelude.{PassMayStore, put_at, refl, Ruled, Seat, seat-here, seat_of, shared-here, Shows}
use Rattle.vm_step.proofs.Prelude.{slice_index, slice_set, Some, some, some-is, some-same, TableShape, Stands}
use Rattle.vm_step.proofs.Prelude.{stands-nowhere, stands-one, stands_in, Start, State, steps, Store, store-core}
use Rattle.vm_step.proofs.Prelude.{store-step, Stored, StoreIsItsEvent, StoresTold, StoreTold, subst, sym, Table}
use Rattle.vm_step.proofs.Prelude.{told_of, true, true≢false, upd, upd-other, upd-same, Version, View, word_at, Works}
use Rattle.vm_step.proofs.Prelude.{World, world_of, ℕ, ⊎_elim, ◌&&◌, ◌*◌, ◌+◌, ◌<◌, ◌||◌, ◌∙◌, ◌∷◌, ◌≡◌, ◌≢◌, ◌≤◌}
use Rattle.vm_step.proofs.steps.Event.{is-event}
use Rattle.vm_step.proofs.steps.Leaving.{apart, holds-still, knows-still, last-still, LeavesOthers, LeavesOwn}
use Rattle.vm_step.proofs.steps.Leaving.{others-tied, own-from, works-of}

-- ---- who has a page locked

locking-is : (y : Seat) → (y.exclusive || nat_lt 0 y.shares) ≡ true → IsLocking y
locking-is y e = ⊎_elim (λ x. inl x) (λ x. inr (let lt = ltb-true 0 y.shares x in omega (arith, lt)))
    (or_cases y.exclusive (nat_lt 0 y.shares) e)

is-locking : (y : Seat) → IsLocking y → (y.exclusive || nat_lt 0 y.shares) ≡ true
is-locking y = ⊎_elim (λ x. or_left y.exclusive (nat_lt 0 y.shares) x)
    (λ x. or_right y.exclusive (nat_lt 0 y.shares) (lt-ltb 0 y.shares (omega arith)))

-- ---- the frame of the translation where there is one and the page is locked, else another

abbrev frame-by : Bool → Option Mapping → Option ℕ → Option ℕ
frame-by b t d = if b && is_some t then frame_of t else d

frame-some : (t u : Option Mapping) (d : Option ℕ) → frame_of t ≡ frame_of u → frame-by true t d ≡ frame-by true u d
frame-some None None d e = refl
frame-some (Some m) (Some n) d e = e
frame-some None (Some n) d e = cc
frame-some (Some m) None d e = cc

frame-same : (b : Bool) (t u : Option Mapping) (d : Option ℕ) → (b ≡ true → frame_of t ≡ frame_of u)
    → frame-by b t d ≡ frame-by b u d
frame-same false t u d e = refl
frame-same true t u d e = frame-some t u d (e refl)

frame-mapped : (b : Bool) (t : Option Mapping) (m : Mapping) (d : Option ℕ) → b ≡ true → t ≡ Some m
    → frame-by b t d ≡ Some m.frame
frame-mapped b t m d locks is = rw (locks, is) refl

-- the pass knows the frame of a page that it has locked
pub frame-known : (y : Seat) (h : Held) (r : Page) → KnowsPage y h r → IsLocking y
    → frame_of h.mapping ≡ frame_of r.trans
frame-known y h r k = ⊎_elim (λ x. ap frame_of (k.calls (rw x refl)).0) (λ x. k.shares x)

-- a frame's words stand one behind another
pub placed-from : (shape : TableShape) (f first i : ℕ) → IsPlacedAt shape (places.Content f 0) first
    → IsPlacedAt shape (places.Content f i) (first + i)
placed-from shape f first i is start has = let here = is start has in omega (arith, here)

module _ {X B : Type 0} (stored : B → Stored) (start : Origin) (s : Table (Option B) (View X)) (id p : ℕ) (v : View X)
    (l : p < start.pages) (there : get_elem? s.views id ≡ some v) where
  abbrev page : Page
  page = (core_shown stored start s).pages p

  seat-reads : load_frame page id ≡ frame-by ((seat_of v p).exclusive || nat_lt 0 (seat_of v p).shares) page.trans
      (open_frame (seat_of v p).reading)
  seat-reads = ap (λ (y : Seat). frame-by (y.exclusive || nat_lt 0 y.shares) page.trans (open_frame y.reading))
      (seat-here stored start s id p v l there)

  -- a load of the page reads the frame that the pass knows
  pub reads-known : KnowsPage (seat_of v p) (put_at no_held v.held p) page → load_frame page id ≡ frame_read_by v p
  reads-known k =
      seat-reads
      ∙ frame-same ((seat_of v p).exclusive || nat_lt 0 (seat_of v p).shares) page.trans
      (put_at no_held v.held p).mapping (open_frame (seat_of v p).reading)
      (λ e. sym (frame-known (seat_of v p) (put_at no_held v.held p) page k (locking-is (seat_of v p) e)))

  -- where the pass has the page locked, and the page is resident, that is the page's frame
  pub reads-mapped : (m : Mapping) (f : ℕ) → page.trans ≡ Some m → IsLocking (seat_of v p)
      → load_frame page id ≡ Some f → m.frame ≡ f
  reads-mapped m f is locks reads =
      some-same m.frame f (sym (frame-mapped ((seat_of v p).exclusive || nat_lt 0 (seat_of v p).shares) page.trans m
      (open_frame (seat_of v p).reading) (is-locking (seat_of v p) locks) is) ∙ sym seat-reads ∙ reads)

module _ {X B : Type 0} (stored : B → Stored) (keeps : Start → Kept X → Type 0)
    (tied : Start → ℕ → List ℕ → ℕ → List ℕ → Type 0) (start : Origin) (tells : Bool) (s : Table (Option B) (View X))
    (r : Ruled stored keeps tied start tells s) (id : ℕ) (v : View X) (there : get_elem? s.views id ≡ some v)
    (live : v.live ≡ true) where
  -- the page stands in the frame
  pub stands-drafted : (p f : ℕ) → Drafts v p f → stands_in ((core_shown stored start s).pages p).trans f ≡ true
  stands-drafted p f d =
      ap (λ t. stands_in t f) (stands-known stored keeps tied start tells s r id v there live p (record {
        frame = f;
        dirty = true;
      }) d.owns d.stands).1 ∙ eq-eqb f f refl

  pub store-legal : (p f i x : ℕ) → f < start.frames → i < start.size → Drafts v p f
      → Legal (core_shown stored start s) (Store id f i x)
  store-legal p f i x lf li d =
      let known = stands-known stored keeps tied start tells s r id v there live p (record { frame = f; dirty = true }) d.owns d.stands in
      record {
        actor = at-bound s.views id v there;
        frame = lf;
        place = li;
        owns = inr (
          p,
          known.0,
          record {
            owns = ap (λ (y : Seat). y.exclusive) (seat-here stored start s id p v known.0 there) ∙ d.owns;
            stands = known.1;
          },
        );
      }

  pub store-shows : (p f i x : ℕ) → f < start.frames → i < start.size → Drafts v p f
      → Shows stored keeps tied start tells s r id v (slice_set s.words (index_of start (places.Content f i)) x)
      (upd r.drafts p (slice_set (r.drafts p) i x)) [] [] (did_store (places.Content f i) x)
      (drafted_view p i x v) (Store id f i x)
  store-shows p f i x lf li d =
      let words : List ℕ = slice_set s.words (index_of start (places.Content f i)) x in
      let drafts : ℕ → List ℕ = upd r.drafts p (slice_set (r.drafts p) i x) in
      let inner : View X = drafted_view p i x v in
      let c : State = core_shown stored start s in
      let old : World = world_of stored start r.releases r.drafts s in
      let m : Mapping = record { frame = f; dirty = true } in
      let k : KnowsPages tied start old (is_pending s.views) v = r.known id v there live in
      let known : (p < start.pages) × ((c.pages p).trans ≡ Some m) = stands-known stored keeps tied start tells s r id
      v there live p m d.owns d.stands in
      quiet-shows stored keeps tied start tells s r id v words drafts (did_store (places.Content f i) x) inner (Store id f i x) there live
      (record {
        word = word-left start s.words (did_store (places.Content f i) x) x r.wide.0 r.spelled (lf, li) refl tt refl;
        legal = store-legal p f i x lf li d;
        world = store-step stored start s r.releases r.drafts id v _ p f i x true r.inv r.wide.0 known.0 lf li there
            refl refl refl refl d.owns known.1;
        leaves = refl;
        calls = λ o e. (r.blocks.away id v o there e).1;
        holds = λ q owns. owns;
        members = λ q some'. upd-other r.drafts p (slice_set (r.drafts p) i x) q
            (λ e. true≢false (sym (member-mine stored keeps tied start tells s r id v there live p known.0 d.owns
            (ap (is_pending s.views) (sym e) ∙ some')) ∙ d.free));
        next = refl;
        spares = refl;
        knows = k.knows;
        owners = k.owners;
        contents = λ g e.
            let nowhere : stands_in (c.pages p).trans g ≡ false =
            stands-nowhere old g id p r.inv (held-here stored start s id g v there ∙ e) in
            k.contents g e ∙ sym (upd-other c.words f (slice_set (c.words f) i x) g
            (λ h. true≢false (sym (ap (λ t. stands_in t g) known.1 ∙ eq-eqb f g (sym h)) ∙ nowhere)));
        drafted = each-upd2 (λ q l m. (seat_of v q).exclusive ≡ true → l ≡ m) (draft_of v) r.drafts p
            (slice_set (draft_of v p) i x) (slice_set (r.drafts p) i x)
            (λ owns. ap (λ l. slice_set l i x) (k.drafts p owns ∙ draft-is start r.releases r.drafts p))
            (λ q _ owns. k.drafts q owns ∙ draft-is start r.releases r.drafts q);
        loaded = ([], refl, tt);
      })

  -- no draft stands in a frame that the pass holds
  pub no-draft : (p f : ℕ) → has f v.frames ≡ true → Drafts v p f → ⊥
  no-draft p f owns d =
      true≢false (sym (stands-drafted p f d)
      ∙ stands-nowhere (world_of stored start r.releases r.drafts s) f id p r.inv (held-here stored start s id f v there ∙ owns))

  pub fill-legal : (f i x : ℕ) → f < start.frames → i < start.size → has f v.frames ≡ true
      → Legal (core_shown stored start s) (Store id f i x)
  fill-legal f i x lf li owns = record {
    actor = at-bound s.views id v there;
    frame = lf;
    place = li;
    owns = inl (held-here stored start s id f v there ∙ owns);
  }

  pub fill-shows : (f i x : ℕ) → f < start.frames → i < start.size → has f v.frames ≡ true
      → Shows stored keeps tied start tells s r id v (slice_set s.words (index_of start (places.Content f i)) x)
      r.drafts [] [] (did_store (places.Content f i) x) (filled_view f i x v) (Store id f i x)
  fill-shows f i x lf li owns =
      let words : List ℕ = slice_set s.words (index_of start (places.Content f i)) x in
      let inner : View X = filled_view f i x v in
      let c : State = core_shown stored start s in
      let k : KnowsPages tied start (world_of stored start r.releases r.drafts s) (is_pending s.views) v = r.known id v there live in
      let contents : ℕ → List ℕ = put_at [] v.contents in
      held-shows stored keeps tied start tells s r id v words (did_store (places.Content f i) x) v.held v.frames
      inner.contents (Store id f i x) there live
      (word-left start s.words (did_store (places.Content f i) x) x r.wide.0 r.spelled (lf, li) refl tt refl)
      (fill-legal f i x lf li owns)
      (fill-step stored start s r.releases r.drafts id v _ f i x r.inv r.wide.0 lf li there refl refl refl refl owns)
      refl refl k.knows k.owners
      (each-upd2 (λ g l m. has g v.frames ≡ true → l ≡ m) contents c.words f (slice_set (contents f) i x)
      (slice_set (c.words f) i x) (λ _. ap (λ l. slice_set l i x) (k.contents f owns)) (λ g _. k.contents g))

  -- one page alone stands in the frame
  pub one-place : (p q f : ℕ) → Drafts v p f → Drafts v q f → p ≡ q
  one-place p q f d e =
      ⊎_elim (λ same. same)
      (λ ne. absurd (true≢false (sym (stands-drafted p f d) ∙ stands-one (world_of stored start r.releases r.drafts s)
      f q p r.inv (stands-drafted q f e) ne)))
      (cases_eq p q)

module _ {X B : Type 0} (stored : B → Stored) (keeps : Start → Kept X → Type 0)
    (tied : Start → ℕ → List ℕ → ℕ → List ℕ → Type 0) (tells : Bool) where
  -- a load keeps the rule of every table and tells what it is to tell
  pub load-allows : (shape : TableShape) (slots id : ℕ) (v : View X) (i : ℕ) (p f j : ℕ) → v.live ≡ true
      → 0 < length v.used → p < shape.pages → f < shape.frames → j < shape.size → frame_read_by v p ≡ Some f
      → IsPlacedAt shape (places.Content f j) i
      → AllowsStep (Stands stored keeps tied shape tells) slots id v i (λ n. n) (told_of shape tells (LoadTold p f j))
  load-allows shape slots id v i p f j live number l' lf' lj' by is =
      allows-load stored keeps tied shape tells slots id v i (places.Content f j) (LoadTold p f j) live is (λ _ _. tt)
      (λ n w t. fit t.brings live number)
      (λ start has s r there.
      let l : p < start.pages = subst (λ n. p < n) (sym has.pages) l' in
      let lf : f < start.frames = subst (λ n. f < n) (sym has.frames) lf' in
      let lj : j < start.size = subst (λ n. j < n) (sym has.size) lj' in
      let core : State = core_shown stored start s in
      let found : ℕ = slice_index s.words (3 * start.pages + (start.size * f + j)) in
      let did : Did = did_load (places.Content f j) found in
      let inner : View X = loaded_view p j found v in
      let known = r.known id v there live in
      let reads : load_frame (core.pages p) id ≡ Some f = reads-known stored start s id p v l there (known.knows p) ∙ by in
      -- the word is that of the page's frame, where the pass has the page locked and it is resident
      let mapped : (m : Mapping) → (core.pages p).trans ≡ Some m → IsLocking (seat_of v p)
      → found ≡ slice_index (core.words m.frame) j = (λ m is locks.
      sym (content-here stored start s f j lf lj)
      ∙ ap (λ n. slice_index (core.words n) j) (sym (reads-mapped stored start s id p v l there m f is locks reads))) in
      let k = steps stored keeps tied start tells s r id v s.words r.drafts [] [] did inner (Load id p j) there live number refl refl
      (quiet-shows stored keeps tied start tells s r id v s.words r.drafts did inner (Load id p j) there live
      (record {
        word = word-loaded start s.words (places.Content f j) r.wide.0 r.spelled (lf, lj);
        legal = record {
          names = record { actor = at-bound s.views id v there; page = l };
          place = lj;
          frame = subst IsSome (sym reads) refl;
        };
        world = load-step stored start s r.releases r.drafts id v _ p j f found l lf lj there refl refl refl reads refl refl;
        leaves = refl;
        calls = λ o x. (r.blocks.away id v o there x).1;
        holds = λ q x. x;
        members = λ q _. refl;
        next = refl;
        spares = refl;
        knows = known.knows;
        owners = known.owners;
        contents = known.contents;
        drafted = λ q x. known.drafts q x ∙ draft-is start r.releases r.drafts q;
        loaded = ([], refl, tt);
      })) in (
        _,
        k.0,
        record {
          brings = k.1;
          drafted = λ t owns resident.
              let m : (m : Mapping) × ((put_at no_held v.held p).mapping ≡ Some m) = some-is (put_at no_held v.held p).mapping resident in
              let trans : (core.pages p).trans ≡ Some m.0 = sym ((known.knows p).calls (rw owns refl)).0 ∙ m.1 in
              mapped m.0 trans (inl owns)
              ∙ ap (λ ws. slice_index ws j)
              (((r.inv.pages p).contents (ap (λ (o : Origin). o.tells) (sym (r.heard id v there live).same_start)
              ∙ t)).draft (locked-here stored start s id p v (r.inv.pages p).locks l there owns) m.0 trans
              ∙ sym (known.drafts p owns));
          shared = λ t has-share.
              let state : (1 ≤ (core.pages p).state) × ((core.pages p).state < LOCKED) =
              shared-here stored start s id p v (r.inv.pages p).locks l there has-share in
              let free : (core.pages p).state ≢ LOCKED = (λ e. absurd (omega (arith, state.1, e))) in
              let stays : (core.pages p).state ≢ EVICTED = (λ e. absurd (omega (arith, state.1, e))) in
              let m : (m : Mapping) × ((core.pages p).trans ≡ Some m) =
              some-is (core.pages p).trans ((r.inv.pages p).stands.resident free stays) in
              mapped m.0 m.1 (inr has-share)
              ∙ ap (λ ws. slice_index ws j)
              (((r.inv.pages p).contents (ap (λ (o : Origin). o.tells) (sym (r.heard id v there live).same_start)
              ∙ t)).logical free m.0 m.1 ∙ ap (λ (y : Version). y.words) (sym (known.latest p (inr has-share))));
        },
      ))

  -- a store into the frame of a page, or into a frame of the pass, keeps the rule of every table and tells what it is
  -- to tell
  pub store-allows : (shape : TableShape) (slots id : ℕ) (v : View X) (i : ℕ) (f j x : ℕ) → v.live ≡ true
      → 0 < length v.used → f < shape.frames → j < shape.size → PassMayStore v f
      → IsPlacedAt shape (places.Content f j) i
      → AllowsStep (Stands stored keeps tied shape tells) slots id v i (λ _. x) (told_of shape tells (λ _. StoresTold f j x))
  store-allows shape slots id v i f j x live number lf' lj' may is =
      allows stored keeps tied shape tells slots id v i (places.Content f j) (λ _. x) (λ _. x) (λ _. StoresTold f j x) live is (λ _ _. tt) (λ _. refl)
      (λ _ w t. ⊎_elim (λ owns. fit (t.own owns).brings live number) (λ d. fit (t.page d.0 d.1).brings live number) may)
      (λ start shaped s r there _.
      let lf : f < start.frames = subst (λ n. f < n) (sym shaped.frames) lf' in
      let lj : j < start.size = subst (λ n. j < n) (sym shaped.size) lj' in
      let words : List ℕ = slice_set s.words (index_of start (places.Content f j)) x in
      let did : Did = did_store (places.Content f j) x in
      let apart : (q : ℕ) → has f v.frames ≡ true → Drafts v q f → ⊥ =
      (λ q. no-draft stored keeps tied start tells s r id v there live q f) in
      ⊎_elim
      (λ owns.
      let k = steps stored keeps tied start tells s r id v words r.drafts [] [] did (filled_view f j x v)
      (Store id f j x) there live number refl refl
      (fill-shows stored keeps tied start tells s r id v there live f j x lf lj owns) in (
        _,
        k.0,
        record {
          own = λ _. record {
            brings = k.1;
            size = ap length ((r.known id v there live).contents f owns) ∙ r.inv.words f
                ∙ sym (ap (λ (o : Origin). o.size) (r.heard id v there live).same_start);
          };
          page = λ q e. absurd (apart q owns e);
        },
      ))
      (λ (d : (p : ℕ) × Drafts v p f).
      let p : ℕ = d.0 in
      let w : View X = after_step stored keeps tied start tells s r words [] [] did (drafted_view p j x v) in
      let k = steps stored keeps tied start tells s r id v words (upd r.drafts p (slice_set (r.drafts p) j x)) [] []
      did (drafted_view p j x v) (Store id f j x) there live number refl refl
      (store-shows stored keeps tied start tells s r id v there live p f j x lf lj d.1) in (
        w,
        k.0,
        record {
          own = λ owns. absurd (apart p owns d.1);
          page = λ q e. record {
            brings = subst (λ n. Brings did [] [] v (drafted_view n j x v) w)
                (one-place stored keeps tied start tells s r id v there live p q f d.1 e) k.1;
          };
        },
      ))
      may)

  pub store-event : StoreIsItsEvent stored keeps tied tells
  store-event start s id p f i x v w pass lf li d told =
      let view = told.brings.view in
      record {
        legal = store-legal stored keeps tied start tells s pass.rule id v pass.there pass.live p f i x lf li d;
        core = store-core stored start s id v w f i x pass.rule.wide.0 lf li pass.there
            (ap (λ (y : View X). y.out) view) (ap (λ (y : View X). holdings y) view)
            (ap (λ (y : View X). y.seats) view);
        sees = refl;
      }

  pub fill-event : FillIsItsEvent stored keeps tied tells
  fill-event start s id f i x v w pass lf li owns told =
      let view = told.brings.view in
      record {
        legal = fill-legal stored keeps tied start tells s pass.rule id v pass.there pass.live f i x lf li owns;
        core = store-core stored start s id v w f i x pass.rule.wide.0 lf li pass.there
            (ap (λ (y : View X). y.out) view) (ap (λ (y : View X). holdings y) view)
            (ap (λ (y : View X). y.seats) view);
        sees = refl;
      }

  pub load-event : LoadIsItsEvent stored keeps tied tells
  load-event start s id p f i found v w pass finds l by told =
      let view = told.brings.view in
      let c : State = core_shown stored start s in
      let reads : load_frame (c.pages p) id ≡ Some f = reads-known stored start s id p v l pass.there
      ((pass.rule.known id v pass.there pass.live).knows p) ∙ by in
      is-event (record {
        names = record { actor = at-bound s.views id v pass.there; page = l };
        place = finds.0.1;
        frame = subst IsSome (sym reads) refl;
      })
      (load-step stored start s [] (λ _. []) id v w p i f found l finds.0.0 finds.0.1 pass.there
      (ap (λ (y : View X). y.out) view) (ap (λ (y : View X). holdings y) view) (ap (λ (y : View X). y.seats) view)
      reads finds.1 (ap (λ (y : View X). y.loads) view))
      (ap sights.Word (ap (λ o. word_at c.words o i) reads ∙ content-here stored start s f i finds.0.0 finds.0.1 ∙ sym finds.1))

module _ {X : Type 0} {p f i x : ℕ} {v w : View X} (t : StoreTold p f i x v w) where
  pub store-others : (touched : ℕ → Type 0) → touched p
      → LeavesOthers touched ((did_store (places.Content f i) x) ∷ []) [] v w
  store-others touched at = others-tied t.brings ([], refl) tt (λ q ne. refl) (λ q ne. refl) (λ q ne. refl)
      (λ q ne. upd-other (put_at [] v.drafts) p _ q (apart touched at q ne))

  pub store-own : LeavesOwn v w
  store-own = own-from t.brings refl (refl, refl, refl) (refl, λ _. (refl, refl))

  pub store-seat : (q : ℕ) → seat_of w q ≡ seat_of v q
  store-seat q = ap (λ (y : View X). seat_of y q) t.brings.view

  pub store-loads : (q : ℕ) → loads_at w q ≡ loads_at v q
  store-loads q = ap (λ (y : View X). loads_at y q) t.brings.view

  pub store-held : (q : ℕ) → held_at w q ≡ held_at v q
  store-held q = ap (λ (y : View X). held_at y q) t.brings.view

  pub store-draft : draft_of w p ≡ slice_set (draft_of v p) i x
  store-draft = ap (λ (y : View X). draft_of y p) t.brings.view ∙ upd-same (put_at [] v.drafts) p _

  pub store-last : (q : ℕ) → IsLocking (seat_of v q) → last_of w q ≡ last_of v q
  store-last = last-still t.brings refl

module _ {X : Type 0} {p f i found : ℕ} {v w : View X} (t : LoadTold p f i found v w) where
  pub load-others : (touched : ℕ → Type 0) → touched p
      → LeavesOthers touched (did_load (places.Content f i) found ∷ []) [] v w
  load-others touched at = others-tied t.brings ([], refl) tt (λ q ne. refl)
      (λ q ne. upd-other (put_at [] v.loads) p _ q (apart touched at q ne)) (λ q ne. refl) (λ q ne. refl)

  pub load-own : LeavesOwn v w
  load-own = own-from t.brings refl (refl, refl, refl) (refl, λ _. (refl, refl))

  pub load-seat : (q : ℕ) → seat_of w q ≡ seat_of v q
  load-seat q = ap (λ (x : View X). seat_of x q) t.brings.view

  pub load-loads : loads_at w p ≡ loads_more (open_frame (seat_of v p).reading) (loads_at v p) i found
  load-loads = ap (λ (x : View X). loads_at x p) t.brings.view ∙ upd-same (put_at [] v.loads) p _

  pub load-holds : (q : ℕ) → HoldsPage v w q
  load-holds q = holds-still q (load-seat q)

  pub load-knows : (q : ℕ) → IsLocking (seat_of v q) → KnowsAsBefore v w q
  load-knows = knows-still t.brings refl refl refl

  -- of a page without an open read it changes nothing
  pub load-works : (seat_of v p).reading ≡ None → Works p (did_load (places.Content f i) found ∷ []) v w
  load-works closed =
      works-of (load-others (λ q. q ≡ p) refl) load-own (load-seat p)
      (load-loads ∙ ap (λ (o : Option Open). loads_more (open_frame o) (loads_at v p) i found) closed)
      (ap (λ (x : View X). draft_of x p) t.brings.view) (λ l. (load-knows p l).last)
