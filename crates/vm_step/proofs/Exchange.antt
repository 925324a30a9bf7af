-- An exchange, found there or not: at any place, the rule after it, and that it is an event of the core; on a page's
-- state word, what the pass knows of
-- pages afterwards, what it shows of itself where it is taken, and what it tells either way.
use Rattle.std.proofs.Common.{eq-eqb, ne_eqb}
use Rattle.vm_event.specs.declared.event.PageAct.TheVariants as acts
use Rattle.vm_event.specs.declared.event.Seen.TheVariants as sights
use Rattle.vm_event.proofs.Alone.{act-alone}
use Rattle.vm_rule.specs.declared.view.WordPlace.TheVariants as places
use Rattle.vm_rule.proofs.Alone.{taken-locks, taken-lockw, taken-lockx, taken-mark, taken-unmark, taken-upgrade}
use Rattle.vm_step.proofs.{Evidenced.lost-view, Evidenced.taken-view, Here.frame-inside, Here.last, Here.last-told}
use Rattle.vm_step.proofs.{Here.older, Here.since, Here.validates, Here.world, Logical.not-pending, Quiet.quiet-shows}
use Rattle.vm_step.proofs.{Quiet.ShowsQuiet, Written.IsWordOf, Written.word-left}
use Rattle.vm_step.proofs.Prelude.{[], actor_of, after_event, after_step, any-here, ap, arith, at-bound, became}
use Rattle.vm_step.proofs.Prelude.{block-here, block-is_last, block_of, Bool, Brings, cases_eq, core-still}
use Rattle.vm_step.proofs.Prelude.{core_shown, Did, did_exchange, draft-is, draft_of, Each, each-upd, each-upd2}
use Rattle.vm_step.proofs.Prelude.{either, Entry, eqb, Event, exchange_seen, exchange_sees, exchanged, false}
use Rattle.vm_step.proofs.Prelude.{false_from_ne_true, finds, finds-hit, finds-miss, FindsAt, frame_of, get_elem?}
use Rattle.vm_step.proofs.Prelude.{has, Held, holdings, if◌then◌else◌, index_of, is_pending, IsEvent, IsHeldAt}
use Rattle.vm_step.proofs.Prelude.{IsOlder, IsPassOf, IsSinceAll, IsUnheld, Kept, KnowsOwner, KnowsOwners, KnowsPage}
use Rattle.vm_step.proofs.Prelude.{last-is, last_in, last_of, Legal, length, List, LOCKED, locked, locked_view, LockS}
use Rattle.vm_step.proofs.Prelude.{locks-step, LockValidates, LockW, lockw-step, LockX, lockx-step, lost-locks}
use Rattle.vm_step.proofs.Prelude.{lost-lockw, lost-lockx, lost-mark, lost-unmark, lost-upgrade, Mapping, Mark}
use Rattle.vm_step.proofs.Prelude.{mark-step, MARKED, marked, may_call, MayLock, MayRaiseLock, MayShare}
use Rattle.vm_step.proofs.Prelude.{NamesActorAndPage, no_held, no_seat, None, on_page, one_share_more, Option, Origin}
use Rattle.vm_step.proofs.Prelude.{Out, Page, page_at, page_word, Put, put, put_at, WordPlace, refl, Release, rested}
use Rattle.vm_step.proofs.Prelude.{Ruled, rules, same-word, Seat, seat-here, seat_of, seen, set_if, share_count}
use Rattle.vm_step.proofs.Prelude.{shared, shared_view, Shows, slice_index, slice_set, Some, some, some-is, Start}
use Rattle.vm_step.proofs.Prelude.{State, state-here, state_of, steps, Stored, subst, sum_below, sum_below-at, sym}
use Rattle.vm_step.proofs.Prelude.{Table, table_after, Translation, TranslationHolds, true, true≢false, unheld}
use Rattle.vm_step.proofs.Prelude.{UNLOCKED, Unmark, unmark-step, unmarked, upd, upd-keeps, upd-other, upd-same}
use Rattle.vm_step.proofs.Prelude.{Upgrade, upgrade-step, upgraded, upgraded_view, Version, version-here}
use Rattle.vm_step.proofs.Prelude.{version-within, version_of, View, width, Within, word-here, word-state}
use Rattle.vm_step.proofs.Prelude.{word-version, word_of, World, world_after, world_of, write_locked}
use Rattle.vm_step.proofs.Prelude.{write_locked_view, wrote, ℕ, ⊎_elim, ◌++◌, ◌<◌, ◌∙◌, ◌≡◌, ◌≢◌, ◌≤◌}

-- ---- at any place

module _ {X B : Type 0} (stored : B → Stored) (keeps : Start → Kept X → Type 0)
    (tied : Start → ℕ → List ℕ → ℕ → List ℕ → Type 0) (start : Origin) (tells : Bool) (s : Table (Option B) (View X))
    (r : Ruled stored keeps tied start tells s) (id : ℕ) (v : View X)
    (there : get_elem? s.views id ≡ some v) (live : v.live ≡ true) (number : 0 < length v.used) (at : WordPlace)
    (expects x : ℕ) (l : Within start at) where
  -- the word that stands there
  abbrev pub finding_at : ℕ
  finding_at = slice_index s.words (index_of start at)

  abbrev pub exchange_did : Did
  exchange_did = did_exchange at expects finding_at x

  -- the words after it
  abbrev pub exchanged_at : List ℕ
  exchanged_at = slice_set s.words (index_of start at) (either (eqb finding_at expects) x finding_at)

  -- taken or lost, it keeps the rule, where it is an event; and the pass has the view `inner` and the entries where
  -- it is taken, and none where it is lost
  pub exchange-says : (es : Bool → List (Entry X)) → es false ≡ [] → (drafts : ℕ → List ℕ) (inner : View X)
      (e : Event) → actor_of e ≡ id → Legal (core_shown stored start s) e
      → (finding_at ≡ expects → Shows stored keeps tied start tells s r id v (slice_set s.words (index_of start at) x)
      drafts [] (es true) exchange_did inner e)
      → (finding_at ≢ expects → world_after (world stored keeps tied start tells s r) e ≡ world stored keeps tied start tells s r)
      → (w : View X) × Ruled stored keeps tied start tells (became stored keeps tied start tells s exchanged_at id w)
      × Brings exchange_did [] (es (eqb finding_at expects)) v (if eqb finding_at expects then inner else v) w
      × (w.start ≡ v.start) × (w.releases ≡ r.releases ++ [])
      × (finding_at ≡ expects
      → (w ≡ after_step stored keeps tied start tells s r (slice_set s.words (index_of start at) x) [] (es true)
      exchange_did inner)
      × Ruled stored keeps tied start tells
      (became stored keeps tied start tells s (slice_set s.words (index_of start at) x) id
      (after_step stored keeps tied start tells s r (slice_set s.words (index_of start at) x) [] (es true)
      exchange_did inner)))
  exchange-says es silent drafts inner e actor legal shows none =
      let i : ℕ = index_of start at in
      let told : Bool → View X → Type 0 = λ b w. Ruled stored keeps tied start tells
      (became stored keeps tied start tells s (slice_set s.words i (either b x finding_at)) id w)
      × Brings exchange_did [] (es b) v (if b then inner else v) w in
      ⊎_elim
      (λ hit.
      let is : eqb finding_at expects ≡ true = eq-eqb finding_at expects hit in
      let words : List ℕ = slice_set s.words i x in
      let w : View X = after_step stored keeps tied start tells s r words [] (es true) exchange_did inner in
      let one = steps stored keeps tied start tells s r id v words drafts [] (es true) exchange_did inner e there live number actor
      (subst (λ b. words ≡ set_if (if b then Some x else None) i s.words) (sym is) refl) (shows hit) in
      let k = subst (λ (b : Bool). told b w) (sym is) one in
      (w, k.0, k.1, (shows hit).same_start, refl, λ _. (refl, one.0)))
      (λ miss.
      let is : eqb finding_at expects ≡ false = ne_eqb finding_at expects miss in
      let w : View X = after_step stored keeps tied start tells s r s.words [] [] exchange_did v in
      let m = rested stored keeps tied start tells s r id v exchange_did e there live number actor legal (none miss) l
      refl (ap {B = Option ℕ} (λ b. if b then Some x else None) is) in
      let k = subst (λ (b : Bool). told b w) (sym is) (
        subst (λ words. Ruled stored keeps tied start tells (became stored keeps tied start tells s words id w))
            (sym (same-word s.words i)) m.0,
        subst (λ es'. Brings exchange_did [] es' v v w) (sym silent) m.1,
      ) in
      (w, k.0, k.1, refl, refl, λ hit. absurd (miss hit)))
      (cases_eq finding_at expects)

  -- the same of one that says nothing
  pub exchange-tells : (drafts : ℕ → List ℕ) (inner : View X) (e : Event) → actor_of e ≡ id
      → Legal (core_shown stored start s) e
      → (finding_at ≡ expects → Shows stored keeps tied start tells s r id v (slice_set s.words (index_of start at) x)
      drafts [] [] exchange_did inner e)
      → (finding_at ≢ expects → world_after (world stored keeps tied start tells s r) e ≡ world stored keeps tied start tells s r)
      → (w : View X) × Ruled stored keeps tied start tells (became stored keeps tied start tells s exchanged_at id w)
      × Brings exchange_did [] [] v (if eqb finding_at expects then inner else v) w × (w.start ≡ v.start)
      × (w.releases ≡ r.releases ++ [])
  exchange-tells drafts inner e actor legal shows none =
      let k = exchange-says (λ _. []) refl drafts inner e actor legal shows none in
      (k.0, k.1, k.2, k.3, k.4)

module _ {X B : Type 0} (stored : B → Stored) (start : Origin) (keeps : Start → Kept X → Type 0)
    (tied : Start → ℕ → List ℕ → ℕ → List ℕ → Type 0) (tells : Bool) (s : Table (Option B) (View X)) (id : ℕ) where
  -- it is an event, where it is one with the view `inner` if it is taken, and one that changes nothing if it is lost
  pub tried-event : {es : List (Entry X)} → (at : WordPlace) (expects found x : ℕ) (did : Did) (v inner w : View X)
      (e : Event) → IsPassOf stored start keeps tied tells s id v → FindsAt start s at found
      → Brings did [] es v (if eqb found expects then inner else v) w
      → Legal (core_shown stored start s) e
      → (found ≡ expects → Brings did [] es v inner w
      → core_shown stored start (table_after s (slice_set s.words (index_of start at) x) id w) ≡ after_event
      (core_shown stored start s) e)
      → (found ≢ expects → after_event (core_shown stored start s) e ≡ core_shown stored start s)
      → seen (core_shown stored start s) e ≡ exchange_sees expects found
      → IsEvent stored start s (table_after s (exchanged s.words (index_of start at) expects found x) id w) e (exchange_sees expects found)
  tried-event at expects found x did v inner w e pass finds brings legal taken lost sees =
      let i : ℕ = index_of start at in
      record {
        legal = legal;
        core = ⊎_elim
            (λ hit. rw (eq-eqb found expects hit) (taken hit (taken-view did expects found v inner w hit brings)))
            (λ miss. let view = (lost-view did expects found v inner w miss brings).view in
            rw (ne_eqb found expects miss)
            (ap (λ l. core_shown stored start (table_after s l id w)) (ap (slice_set s.words i) finds.1 ∙ same-word s.words i)
            ∙ core-still stored start s id v w pass.there (ap (λ (k : View X). k.out) view)
            (ap (λ (k : View X). holdings k) view) (ap (λ (k : View X). k.seats) view)
            ∙ sym (lost miss)))
            (cases_eq found expects);
        sees = sees;
      }

-- ---- what the pass has of pages

-- the owner word of the frame that a page stands in
abbrev pub owner_at : (ℕ → ℕ) → Option Mapping → ℕ
owner_at owners None = 0
owner_at owners (Some m) = owners m.frame

-- who knows it of the page's frame knows it of the frame that the page is said to stand in
pub knows-owner : (owners : ℕ → ℕ) (seat : Seat) (h : Held) → h.owner ≡ owner_at owners h.mapping
    → KnowsOwner owners seat h
knows-owner owners seat h is m calls at = is ∙ ap (owner_at owners) at

module _ {X B : Type 0} (stored : B → Stored) (keeps : Start → Kept X → Type 0)
    (tied : Start → ℕ → List ℕ → ℕ → List ℕ → Type 0) (start : Origin) (tells : Bool) (s : Table (Option B) (View X))
    (r : Ruled stored keeps tied start tells s) (id : ℕ) (v : View X) (there : get_elem? s.views id ≡ some v) where
  -- the pass and the page are the core's
  pub names : (p : ℕ) → p < start.pages → NamesActorAndPage (core_shown stored start s) id p
  names p l = record { actor = at-bound s.views id v there; page = l }

  -- the word is the one expected, or not
  pub finding : (p expects : ℕ) → p < start.pages → slice_index s.words p ≡ expects
      → finds ((core_shown stored start s).pages p) expects ≡ true
  finding p expects l hit = finds-hit ((core_shown stored start s).pages p) (slice_index s.words p) expects
      (state-here stored start s p l) (version-here stored start s p l) hit

  pub missing : (p expects : ℕ) → p < start.pages → slice_index s.words p ≢ expects
      → finds ((core_shown stored start s).pages p) expects ≡ false
  missing p expects l miss = finds-miss ((core_shown stored start s).pages p) (slice_index s.words p) expects
      (state-here stored start s p l) (version-here stored start s p l) miss

module _ {X B : Type 0} (stored : B → Stored) (start : Origin) (s : Table (Option B) (View X))
    (releases : List Release) (drafts : ℕ → List ℕ) (id : ℕ) where
  abbrev old : World
  old = world_of stored start releases drafts s

  -- The exchange of the word expected for x is the event, which may happen. Where it is taken, the event leads to the
  -- world that the table shows then, with these drafts and any view that has of the pages what `inner` has, and the
  -- page is `y`; where it is lost, to the same world.
  pub record IsExchange (p expects x : ℕ) (drafts' : ℕ → List ℕ) (inner : View X) (e : Event) (y : Page) : Type 0 where
    pub legal : Legal old.core e
    pub leads : (w : View X) → w.out ≡ inner.out → holdings w ≡ holdings inner → w.seats ≡ inner.seats
        → w.loads ≡ inner.loads → finds (old.core.pages p) expects ≡ true
        → world_of stored start releases drafts' (wrote stored start s id (places.State p) x w) ≡ world_after old e
    pub core : finds (old.core.pages p) expects ≡ true → (world_after old e).core ≡ on_page old.core p y
    pub none : finds (old.core.pages p) expects ≡ false → world_after old e ≡ old

  module _ (v : View X) (p expects : ℕ) (wide : length s.words ≡ width start) (l : p < start.pages)
      (there : get_elem? s.views id ≡ some v) where
    named : NamesActorAndPage old.core id p
    named = record { actor = at-bound s.views id v there; page = l }

    -- an exchange for a word of this state at the version expected, by what it is as a step
    exchange-of : (state : ℕ) (drafts' : ℕ → List ℕ) (inner : View X) (e : Event) (y : Page) → Legal old.core e
        → ((w : View X) → w.out ≡ inner.out → holdings w ≡ holdings inner → w.seats ≡ inner.seats → w.loads ≡ inner.loads
        → state_of (word_of state (version_of expects)) ≡ state
        → version_of (word_of state (version_of expects)) ≡ version_of expects
        → finds (old.core.pages p) expects ≡ true
        → world_of stored start releases drafts'
        (wrote stored start s id (places.State p) (word_of state (version_of expects)) w) ≡ world_after old e)
        → (finds (old.core.pages p) expects ≡ true → (world_after old e).core ≡ on_page old.core p y)
        → (finds (old.core.pages p) expects ≡ false → world_after old e ≡ old)
        → IsExchange p expects (word_of state (version_of expects)) drafts' inner e y
    exchange-of state drafts' inner e y legal leads core none =
        let low = version-within expects in
        record {
          legal = legal;
          leads = λ w out frames seats loads. leads w out frames seats loads
              (word-state state (version_of expects) low) (word-version state (version_of expects) low);
          core = core;
          none = none;
        }

    -- an exclusive lock
    pub lockx-exchange : MayLock expects → (held : Held) (words : List ℕ)
        → IsExchange p expects (word_of LOCKED (version_of expects)) (upd drafts p (last_in start releases p).words)
        (locked_view p held words v) (LockX id p expects) (locked (old.core.pages p) id)
    lockx-exchange may held words = exchange-of LOCKED _ _ _ _
        (act-alone old.core id p (acts.LockX expects) (λ _. refl) (named, may))
        (λ w. lockx-step stored start s releases drafts id v w p expects (word_of LOCKED (version_of expects)) wide l
        there)
        (λ f. ap (λ (y : World). y.core) (taken-lockx old (λ _. refl) id p expects f))
        (lost-lockx old (λ _. refl) id p expects)

    -- a share
    pub locks-exchange : MayShare expects → (held : Held) (said : Option X)
        → IsExchange p expects (word_of (one_share_more (state_of expects)) (version_of expects)) drafts
        (shared_view p held said v) (LockS id p expects) (shared (old.core.pages p) id)
    locks-exchange may held said =
        exchange-of (one_share_more (state_of expects)) _ _ _ _
        (act-alone old.core id p (acts.LockS expects) (λ _. refl) (named, may))
        (λ w. locks-step stored start s releases drafts id v w p expects
        (word_of (one_share_more (state_of expects)) (version_of expects)) wide l there)
        (λ f. ap (λ (y : World). y.core) (taken-locks old (λ _. refl) id p expects f))
        (lost-locks old (λ _. refl) id p expects)

    -- a lock for write-back
    pub lockw-exchange : state_of expects ≡ MARKED → (held : Held)
        → IsExchange p expects (word_of 1 (version_of expects)) drafts (write_locked_view p held v)
        (LockW id p expects) (write_locked (old.core.pages p) id)
    lockw-exchange may held =
        exchange-of 1 _ _ _ _ (act-alone old.core id p (acts.LockW expects) (λ _. refl) (named, may))
        (λ w. lockw-step stored start s releases drafts id v w p expects (word_of 1 (version_of expects)) wide l
        there)
        (λ f. ap (λ (y : World). y.core) (taken-lockw old (λ _. refl) id p expects f))
        (lost-lockw old (λ _. refl) id p expects)

    -- a lock for write-back that becomes exclusive
    pub upgrade-exchange : MayRaiseLock v p expects → (words : List ℕ)
        → IsExchange p expects (word_of LOCKED (version_of expects)) (upd drafts p (last_in start releases p).words)
        (upgraded_view p words v) (Upgrade id p expects) (upgraded (old.core.pages p) id)
    upgrade-exchange may words =
        let here = seat-here stored start s id p v l there in
        let legal : Legal old.core (Upgrade id p expects) = act-alone old.core id p (acts.Upgrade expects) (λ _. refl) (
          named,
          record {
            state = may.state;
            version = may.below;
            writes = ap (λ (k : Seat). k.writing) here ∙ may.writes;
            one = ap (λ (k : Seat). k.shares) here ∙ may.one;
          },
        ) in
        exchange-of LOCKED _ _ _ _ legal
        (λ w. upgrade-step stored start s releases drafts id v w p expects (word_of LOCKED (version_of expects))
        wide l there)
        (λ f. ap (λ (y : World). y.core) (taken-upgrade old (λ _. refl) id p expects f))
        (lost-upgrade old (λ _. refl) id p expects)

    -- a mark
    pub mark-exchange : state_of expects ≡ UNLOCKED → IsExchange p expects (word_of MARKED (version_of expects))
        drafts v (Mark id p expects) (marked (old.core.pages p))
    mark-exchange may = exchange-of MARKED _ _ _ _
        (act-alone old.core id p (acts.Mark expects) (λ _. refl) (named, may))
        (λ w. mark-step stored start s releases drafts id v w p expects (word_of MARKED (version_of expects)) wide l
        there)
        (λ f. ap (λ (y : World). y.core) (taken-mark old (λ _. refl) id p expects f))
        (lost-mark old (λ _. refl) id p expects)

    -- a mark that is taken away
    pub unmark-exchange : state_of expects ≡ MARKED → IsExchange p expects (word_of UNLOCKED (version_of expects))
        drafts v (Unmark id p expects) (unmarked (old.core.pages p))
    unmark-exchange may = exchange-of UNLOCKED _ _ _ _
        (act-alone old.core id p (acts.Unmark expects) (λ _. refl) (named, may))
        (λ w. unmark-step stored start s releases drafts id v w p expects (word_of UNLOCKED (version_of expects)) wide
        l there)
        (λ f. ap (λ (y : World). y.core) (taken-unmark old (λ _. refl) id p expects f))
        (lost-unmark old (λ _. refl) id p expects)

-- ---- on a page's state word

module _ {X B : Type 0} (stored : B → Stored) (keeps : Start → Kept X → Type 0)
    (tied : Start → ℕ → List ℕ → ℕ → List ℕ → Type 0) (start : Origin) (tells : Bool) (s : Table (Option B) (View X))
    (r : Ruled stored keeps tied start tells s) (id : ℕ) (v : View X)
    (there : get_elem? s.views id ≡ some v) (live : v.live ≡ true) (number : 0 < length v.used) (p expects x : ℕ)
    (l : p < start.pages) where
  -- what any exchange tells, which gives the pass the view `inner` and these entries where it is taken
  pub record Tried (es : Bool → List (Entry X)) (inner w : View X) : Type 0 where
    pub rule : Ruled stored keeps tied start tells
        (became stored keeps tied start tells s
        (exchanged_at stored keeps tied start tells s r id v there live number (places.State p) expects x l) id w)
    pub brings : Brings (did_exchange (places.State p) expects (slice_index s.words p) x) []
        (es (eqb (slice_index s.words p) expects)) v (if eqb (slice_index s.words p) expects then inner else v) w
    pub last : last_of w p ≡ last stored keeps tied start tells s r p
    pub version : (last_of w p).version ≡ version_of (slice_index s.words p)
    pub since : IsSinceAll p (slice_index s.words p) v.log
    pub older : IsOlder (slice_index s.words p) (seat_of v p).reading
    pub size : length (last_of w p).words ≡ w.start.size

  -- so it tells, where it is an event, and shows what is to be shown of it when it is taken; and then its view is the
  -- one after that step
  pub tried-says : (es : Bool → List (Entry X)) → es false ≡ [] → (drafts : ℕ → List ℕ) (inner : View X) (e : Event)
      (y : Page) → actor_of e ≡ id → {known : View X} → IsExchange stored start s r.releases r.drafts id p expects x
      drafts known e y
      → (slice_index s.words p ≡ expects → Shows stored keeps tied start tells s r id v (slice_set s.words p x) drafts
      [] (es true) (did_exchange (places.State p) expects (slice_index s.words p) x) inner e)
      → (w : View X) × Tried es inner w
      × (slice_index s.words p ≡ expects
      → (w ≡ after_step stored keeps tied start tells s r (slice_set s.words p x) [] (es true)
      (did_exchange (places.State p) expects (slice_index s.words p) x) inner)
      × Ruled stored keeps tied start tells
      (became stored keeps tied start tells s (slice_set s.words p x) id
      (after_step stored keeps tied start tells s r (slice_set s.words p x) [] (es true)
      (did_exchange (places.State p) expects (slice_index s.words p) x) inner)))
  tried-says es silent drafts inner e y actor is shows =
      let k = exchange-says stored keeps tied start tells s r id v there live number (places.State p) expects x l es
      silent drafts inner e actor is.legal shows
      (λ miss. is.none (missing stored keeps tied start tells s r id v there p expects l miss)) in
      let told : last_of k.0 p ≡ last stored keeps tied start tells s r p = (λ i. last_in (k.3 i) (k.4 i) p)
      ∙ last-told stored keeps tied start tells s r id v there live p in
      let version = ap (λ (y : Version). y.version) told ∙ (r.inv.pages p).stands.last ∙ version-here stored start s p l in
      let size = ap (λ (y : Version). length y.words) told ∙ (r.inv.pages p).sizes.last
      ∙ sym (ap (λ (o : Origin). o.size) (k.3 ∙ (r.heard id v there live).same_start)) in
      let t : Tried es inner k.0 =
      search (
        rules,
        k.1,
        k.2,
        told,
        version,
        since stored keeps tied start tells s r id v there live p l,
        older stored keeps tied start tells s r id v there live p l,
        size,
      ) in
      (k.0, t, k.5)

  -- the same of one that says nothing
  pub tried : (drafts : ℕ → List ℕ) (inner : View X) (e : Event) (y : Page) → actor_of e ≡ id
      → IsExchange stored start s r.releases r.drafts id p expects x drafts inner e y
      → (slice_index s.words p ≡ expects → ShowsQuiet stored keeps tied start tells s r id v (slice_set s.words p x)
      drafts (did_exchange (places.State p) expects (slice_index s.words p) x) inner e)
      → (w : View X) × Tried (λ _. []) inner w
  tried drafts inner e y actor is shows =
      let k = tried-says (λ _. []) refl drafts inner e y actor is
      (λ hit. quiet-shows stored keeps tied start tells s r id v (slice_set s.words p x) drafts
      (did_exchange (places.State p) expects (slice_index s.words p) x) inner e there live (shows hit)) in
      (k.0, k.1)

  -- where nobody has the page locked exclusively, the exchange validates the open read and the ties
  pub tried-validates : (law : (start : Start) (kept : Kept X) (q p : ℕ) → keeps start kept → q < length kept.pages
      → p < length kept.pages → tied start q (page_at kept.pages q) p (page_at kept.pages p))
      → {es : Bool → List (Entry X)} → (inner w : View X) → Tried es inner w
      → ((world stored keeps tied start tells s r).core.pages p).state ≢ LOCKED → v.start.tells ≡ true
      → slice_index s.words p ≡ expects → LockValidates tied p (version_of expects) (last_of w p).words v
  tried-validates law inner w t free tells' hit =
      subst (λ (y : Version). LockValidates tied p (version_of expects) y.words v) (sym t.last)
      (validates stored keeps tied start tells s r id v there live law p expects l hit free tells')

module _ {X B : Type 0} (stored : B → Stored) (keeps : Start → Kept X → Type 0)
    (tied : Start → ℕ → List ℕ → ℕ → List ℕ → Type 0) (start : Origin) (tells : Bool) (s : Table (Option B) (View X))
    (r : Ruled stored keeps tied start tells s) where
  -- the drafts with the page's, which is opened with its last words
  abbrev pub opened : ℕ → ℕ → List ℕ
  opened p = upd r.drafts p (last_in start r.releases p).words

  -- what the pass knows of the page
  abbrev pub page_held : ℕ → Held
  page_held p =
      record {
        mapping = ((world stored keeps tied start tells s r).core.pages p).trans;
        fault = ((world stored keeps tied start tells s r).core.pages p).fault;
        block = block_of stored s.homes s.views p;
        owner = owner_at (world stored keeps tied start tells s r).core.owners
            ((world stored keeps tied start tells s r).core.pages p).trans;
      }

  -- by a seat of its own, it knows a page that differs from this one in its state and its seats alone
  pub known-held : (p : ℕ) → p < start.pages → (seat : Seat) (hs : List (Put Held)) (y : Page)
      → y.trans ≡ ((world stored keeps tied start tells s r).core.pages p).trans
      → y.fault ≡ ((world stored keeps tied start tells s r).core.pages p).fault
      → y.block ≡ ((world stored keeps tied start tells s r).core.pages p).block
      → y.count ≡ ((world stored keeps tied start tells s r).core.pages p).count
      → KnowsPage seat (put_at no_held (put p (page_held p) hs) p) y
  known-held p l seat hs y trans fault block count =
      let here = block-here stored start s p l in
      rw (upd-same (put_at no_held hs) p (page_held p)) (record {
        calls = λ m. (sym trans, sym fault, sym here.0 ∙ sym block, sym here.1 ∙ sym count);
        shares = λ m. ap frame_of (sym trans);
      })

  -- and the owner word of its frame
  pub known-owner : (p : ℕ) (seat : Seat) (hs : List (Put Held))
      → KnowsOwner (world stored keeps tied start tells s r).core.owners seat
      (put_at no_held (put p (page_held p) hs) p)
  known-owner p seat hs = rw (upd-same (put_at no_held hs) p (page_held p))
      (knows-owner (world stored keeps tied start tells s r).core.owners seat (page_held p) refl)

  module _ (id : ℕ) (v : View X) (there : get_elem? s.views id ≡ some v) (p : ℕ) (l : p < start.pages)
      (free : ((world stored keeps tied start tells s r).core.pages p).state ≢ LOCKED) where
    -- the page is no member still to be released of the pass, which does not hold it exclusively
    pub free-member : has p v.pending ≡ false
    free-member =
        false_from_ne_true (has p v.pending)
        (λ t. true≢false (sym (any-here (λ (y : View X). has p y.pending) s.views id v there t)
        ∙ not-pending stored keeps tied start tells s r p l free))

    pub free-owner : (seat_of v p).exclusive ≡ false
    free-owner = unheld stored start s id p v (r.inv.pages p).locks free l there

    -- it does not owe the page either, and does not hold it as the next page
    pub free-debt : v.live ≡ true → has p v.owed ≡ false
    free-debt live =
        false_from_ne_true (has p v.owed) (λ t. true≢false (sym ((r.known id v there live).owed p t).0 ∙ free-owner))

    module _ (none : share_count ((world stored keeps tied start tells s r).core.pages p).state ≡ 0) where
      shares-none : (a : ℕ) → a < length s.views
          → (((world stored keeps tied start tells s r).core.pages p).seats a).shares ≡ 0
      shares-none a la =
          let y : Page = (world stored keeps tied start tells s r).core.pages p in
          let below : (y.seats a).shares ≤ sum_below (length s.views) (λ b. (y.seats b).shares) =
          sum_below-at (length s.views) (λ b. (y.seats b).shares) a la in
          let sum : sum_below (length s.views) (λ b. (y.seats b).shares) ≡ share_count y.state = (r.inv.pages p).locks.shares in
          omega (arith, below, sum, none)

      writes-none : (a : ℕ) → (((world stored keeps tied start tells s r).core.pages p).seats a).writing ≡ false
      writes-none a =
          false_from_ne_true (((world stored keeps tied start tells s r).core.pages p).seats a).writing
          (λ t. let w = (r.inv.pages p).locks.writer a t in let one = w.0 in let zero' = shares-none a w.1 in omega (arith, one, zero'))

      pub free-unheld : v.live ≡ true → IsUnheld v p
      free-unheld live =
          let here = sym (seat-here stored start s id p v l there) in
          let next = λ (e : v.next ≡ Some p). true≢false (sym ((r.known id v there live).next p e).0 ∙ free-owner) in
          search (
            rules,
            free-owner,
            ap (λ (k : Seat). k.shares) here ∙ shares-none id (at-bound s.views id v there),
            ap (λ (k : Seat). k.writing) here ∙ writes-none id,
            free-debt live,
            next,
          )

      -- nobody writes the page back, so its fault word is its block's count
      fault-told : ((world stored keeps tied start tells s r).core.pages p).fault
          ≡ ((world stored keeps tied start tells s r).core.pages p).count
      fault-told = (r.inv.pages p).faults free writes-none

      -- so it knows of the page what a lock tells that was taken at this word
      pub held-at : (live : v.live ≡ true) (expects : ℕ) → slice_index s.words p ≡ expects
          → IsHeldAt p expects v.start.frames v.start.tells (last stored keeps tied start tells s r p).words
          (page_held p)
      held-at live expects hit =
          let state : ((world stored keeps tied start tells s r).core.pages p).state ≡ state_of expects =
          state-here stored start s p l ∙ ap state_of hit in
          let block = block-here stored start s p l in
          subst (λ (o : Origin). IsHeldAt p expects o.frames o.tells (last stored keeps tied start tells s r p).words
          (page_held p)) (sym (r.heard id v there live).same_start)
          (record {
            empty = λ e. (r.inv.pages p).stands.evicted (state ∙ e);
            resident = λ ne. (r.inv.pages p).stands.resident free (λ e. ne (sym state ∙ e));
            inside = frame-inside stored keeps tied start tells s r p;
            owned = λ ne. let m = some-is ((world stored keeps tied start tells s r).core.pages p).trans
                ((r.inv.pages p).stands.resident free (λ e. ne (sym state ∙ e))) in
                ap (owner_at (world stored keeps tied start tells s r).core.owners) m.1 ∙ r.inv.owners.owned p free
                m.0 m.1;
            told = fault-told ∙ block.1;
            device = λ t clean. sym block.0 ∙ block-is_last (r.inv.pages p).stands ((r.inv.pages p).contents t) free clean;
          })

-- the view with these seats, loads, pages known and drafts
abbrev pub locking : {X : Type 0} → View X → List (Put Seat) → List (Put (List (ℕ × ℕ))) → List (Put Held)
    → List (Put (List ℕ)) → View X
locking v seats loads held drafts = record v { seats = seats; loads = loads; held = held; drafts = drafts }

module _ {X B : Type 0} (stored : B → Stored) (keeps : Start → Kept X → Type 0)
    (tied : Start → ℕ → List ℕ → ℕ → List ℕ → Type 0) (start : Origin) (tells : Bool) (s : Table (Option B) (View X))
    (r : Ruled stored keeps tied start tells s) (id : ℕ) (v : View X)
    (there : get_elem? s.views id ≡ some v) (live : v.live ≡ true) (p : ℕ) (l : p < start.pages) where
  abbrev old' : World
  old' = world stored keeps tied start tells s r

  -- a page that the pass holds exclusively has its draft, also after a step that leaves it
  pub draft-stays : (q : ℕ) → (seat_of v q).exclusive ≡ true → draft_of v q ≡ r.drafts q
  draft-stays q owns = (r.known id v there live).drafts q owns ∙ draft-is start r.releases r.drafts q

  module _ (did : Did) (x : ℕ) (drafts : ℕ → List ℕ) (e : Event) (y : Page) where
    -- the step leaves this word, and is an event after which the page is y
    pub record Settles (inner : View X) : Type 0 where
      pub word : IsWordOf start s.words (slice_set s.words p x) did
      pub legal : Legal old'.core e
      pub world : world_of stored start r.releases drafts
          (became stored keeps tied start tells s (slice_set s.words p x) id
          (after_step stored keeps tied start tells s r (slice_set s.words p x) [] [] did inner)) ≡ world_after old' e
      pub core : (world_after old' e).core ≡ on_page old'.core p y

    -- what it shows of the pass's seats, of the pages that it knows and of the drafts
    pub word-shows : (seats : List (Put Seat)) (loads : List (Put (List (ℕ × ℕ)))) (held : List (Put Held))
        (own : List (Put (List ℕ))) → Settles (locking v seats loads held own)
        → ((o : Out) → v.out ≡ Some o → may_call (put_at no_seat seats o.page) ≡ true)
        → ((q : ℕ) → (seat_of v q).exclusive ≡ true → (put_at no_seat seats q).exclusive ≡ true)
        → ((q : ℕ) → KnowsPage (put_at no_seat seats q) (put_at no_held held q) (upd old'.core.pages p y q))
        → KnowsOwners old'.core.owners (put_at no_seat seats) (put_at no_held held)
        → ((q : ℕ) → is_pending s.views q ≡ true → drafts q ≡ r.drafts q)
        → ((q : ℕ) → (put_at no_seat seats q).exclusive ≡ true → put_at [] own q ≡ drafts q)
        → ShowsQuiet stored keeps tied start tells s r id v (slice_set s.words p x) drafts did (locking v seats loads held own) e
    word-shows seats loads held own is calls holds knows owners members drafted =
        let known = subst (λ (c : State). (c.next ≡ old'.core.next) × (c.spares ≡ old'.core.spares)
        × ((q : ℕ) → KnowsPage (put_at no_seat seats q) (put_at no_held held q) (c.pages q))
        × KnowsOwners c.owners (put_at no_seat seats) (put_at no_held held)
        × ((f : ℕ) → has f v.frames ≡ true → put_at [] v.contents f ≡ c.words f)) (sym is.core)
        (refl, refl, knows, owners, (r.known id v there live).contents) in
        let loaded : (l : List Translation) × (v.translations ≡ l ++ v.translations)
        × Each (TranslationHolds (world_after old' e).core.pages) l = ([], refl, tt) in
        assumption

    -- the same, where the pass has this seat of the page, and knows the page, if the seat says so
    pub seat-shows : (seat : Seat) (loads : List (Put (List (ℕ × ℕ)))) (held : List (Put Held))
        (own : List (Put (List ℕ))) → Settles (locking v (put p seat v.seats) loads held own)
        → ((o : Out) → v.out ≡ Some o → o.page ≡ p → may_call (seat_of v p) ≡ true → may_call seat ≡ true)
        → ((seat_of v p).exclusive ≡ true → seat.exclusive ≡ true)
        → ((q : ℕ) → q ≢ p → put_at no_held held q ≡ put_at no_held v.held q) → KnowsPage seat (put_at no_held held p)
        y → KnowsOwner old'.core.owners seat (put_at no_held held p)
        → ((q : ℕ) → is_pending s.views q ≡ true → drafts q ≡ r.drafts q)
        → ((q : ℕ) → (put_at no_seat (put p seat v.seats) q).exclusive ≡ true → put_at [] own q ≡ drafts q)
        → ShowsQuiet stored keeps tied start tells s r id v (slice_set s.words p x) drafts did
        (locking v (put p seat v.seats) loads held own) e
    seat-shows seat loads held own is calls holds others here owner =
        word-shows (put p seat v.seats) loads held own is
        (λ o x. each-upd (λ q y. o.page ≡ q → may_call (seat_of v q) ≡ true → may_call y ≡ true)
        (put_at no_seat v.seats) p seat (calls o x) (λ q ne e k. k) o.page refl (r.blocks.away id v o there x).1)
        (each-upd (λ q y. (seat_of v q).exclusive ≡ true → y.exclusive ≡ true) (put_at no_seat v.seats) p seat holds (λ q ne k. k))
        (each-upd2 (λ q k z. KnowsPage k (put_at no_held held q) z) (put_at no_seat v.seats) old'.core.pages p seat y
        here (λ q ne. subst (λ h. KnowsPage (seat_of v q) h (old'.core.pages q)) (sym (others q ne))
        ((r.known id v there live).knows q)))
        (each-upd (λ q k. KnowsOwner old'.core.owners k (put_at no_held held q)) (put_at no_seat v.seats) p seat owner
        (λ q ne. subst (KnowsOwner old'.core.owners (seat_of v q)) (sym (others q ne))
        ((r.known id v there live).owners q)))

  -- ---- a lock

  module _ (expects x : ℕ) (hit : slice_index s.words p ≡ expects) where
    abbrev taken_did : Did
    taken_did = did_exchange (places.State p) expects (slice_index s.words p) x

    -- so an exchange that is taken does
    pub exchange-settles : (drafts : ℕ → List ℕ) (inner : View X) (e : Event) (y : Page)
        → IsExchange stored start s r.releases r.drafts id p expects x drafts inner e y
        → Settles taken_did x drafts e y inner
    exchange-settles drafts inner e y is =
        let found-it = finding stored keeps tied start tells s r id v there p expects l hit in
        record {
          word = word-left start s.words taken_did x r.wide.0 r.spelled l refl refl
              (ap {B = Option ℕ} (λ b. if b then Some x else None) (eq-eqb (slice_index s.words p) expects hit));
          legal = is.legal;
          world = is.leads _ refl refl refl refl found-it;
          core = is.core found-it;
        }

    -- an exclusive lock of a page that was not locked: its draft is opened
    pub owner-shows : (e : Event) (y : Page) (seat : Seat) (held : List (Put Held))
        → IsExchange stored start s r.releases r.drafts id p expects x (opened stored keeps tied start tells s r p)
        (locking v (put p seat v.seats) (put p [] v.loads) held
        (put p (last stored keeps tied start tells s r p).words v.drafts)) e y
        → seat.exclusive ≡ true → (old'.core.pages p).state ≢ LOCKED
        → ((q : ℕ) → q ≢ p → put_at no_held held q ≡ put_at no_held v.held q) → KnowsPage seat (put_at no_held held p)
        y → KnowsOwner old'.core.owners seat (put_at no_held held p)
        → ShowsQuiet stored keeps tied start tells s r id v (slice_set s.words p x)
        (opened stored keeps tied start tells s r p) taken_did
        (locking v (put p seat v.seats) (put p [] v.loads) held
        (put p (last stored keeps tied start tells s r p).words v.drafts)) e
    owner-shows e y seat held is owns free others here owner =
        seat-shows taken_did x (opened stored keeps tied start tells s r p) e y seat (put p [] v.loads) held
        (put p (last stored keeps tied start tells s r p).words v.drafts)
        (exchange-settles (opened stored keeps tied start tells s r p) _ e y is) (λ o h same m. rw owns refl)
        (λ m. owns) others here owner
        (each-upd (λ q words. is_pending s.views q ≡ true → words ≡ r.drafts q) r.drafts p _
        (λ t. absurd (true≢false (sym t ∙ not-pending stored keeps tied start tells s r p l free)))
        (λ q ne t. refl))
        (each-upd2 (λ q mine words. (put_at no_seat (put p seat v.seats) q).exclusive ≡ true → mine ≡ words)
        (put_at [] v.drafts) r.drafts p _ _
        (λ m. ap (λ (k : Version). k.words) (sym (last-is start r.releases r.drafts p)))
        (λ q ne m. draft-stays q (sym (ap (λ (k : Seat). k.exclusive) (upd-other (λ n. seat_of v n) p seat q ne)) ∙ m)))

    -- a lock that is not exclusive
    pub sharer-shows : (e : Event) (y : Page) (seat : Seat) (held : List (Put Held))
        → IsExchange stored start s r.releases r.drafts id p expects x r.drafts
        (locking v (put p seat v.seats) (put p [] v.loads) held v.drafts) e y
        → (may_call (seat_of v p) ≡ true → may_call seat ≡ true) → seat.exclusive ≡ (seat_of v p).exclusive
        → ((q : ℕ) → q ≢ p → put_at no_held held q ≡ put_at no_held v.held q) → KnowsPage seat (put_at no_held held p)
        y → KnowsOwner old'.core.owners seat (put_at no_held held p)
        → ShowsQuiet stored keeps tied start tells s r id v (slice_set s.words p x) r.drafts taken_did
        (locking v (put p seat v.seats) (put p [] v.loads) held v.drafts) e
    sharer-shows e y seat held is calls same others here owner =
        seat-shows taken_did x r.drafts e y seat (put p [] v.loads) held v.drafts (exchange-settles r.drafts _ e y is)
        (λ o h at. calls) (λ m. same ∙ m) others here owner (λ q t. refl)
        (λ q m. draft-stays q (sym (upd-keeps (λ (k : Seat). k.exclusive) (λ n. seat_of v n) p seat same q) ∙ m))

module _ {X B : Type 0} (stored : B → Stored) (start : Origin) (keeps : Start → Kept X → Type 0)
    (tied : Start → ℕ → List ℕ → ℕ → List ℕ → Type 0) (tells : Bool) (s : Table (Option B) (View X)) (id p : ℕ) where
  -- what an exchange on a page's state word tells, of a kind whose view where it was taken is `inner`: the event is
  -- this one
  pub exchange-event : {es : List (Entry X)} → (expects found x : ℕ) (drafts : ℕ → List ℕ) (did : Did)
      (v inner w : View X) (e : Event) (z : Page) → IsPassOf stored start keeps tied tells s id v
      → FindsAt start s (places.State p) found
      → IsExchange stored start s [] (λ _. []) id p expects x drafts inner e z
      → Brings did [] es v (if eqb found expects then inner else v) w
      → seen (core_shown stored start s) e ≡ exchange_seen ((core_shown stored start s).pages p) expects
      → IsEvent stored start s (table_after s (exchanged s.words p expects found x) id w) e (exchange_sees expects found)
  exchange-event expects found x drafts did v inner w e z pass at event brings sees =
      let y : Page = (core_shown stored start s).pages p in
      let word : page_word y ≡ found = word-here stored start s p at.0 ∙ sym at.1 in
      let hits : found ≡ expects → finds y expects ≡ true =
      (λ hit. finding stored keeps tied start tells s pass.rule id v pass.there p expects at.0
      (sym at.1 ∙ hit)) in
      let misses : found ≢ expects → finds y expects ≡ false =
      (λ miss. missing stored keeps tied start tells s pass.rule id v pass.there p expects at.0
      (λ q. miss (at.1 ∙ q))) in
      tried-event stored start keeps tied tells s id (places.State p) expects found x did v inner w e pass at brings event.legal
      (λ hit b. ap (λ (k : World). k.core)
      (event.leads w (ap (λ (k : View X). k.out) b.view) (ap (λ (k : View X). holdings k) b.view)
      (ap (λ (k : View X). k.seats) b.view) (ap (λ (k : View X). k.loads) b.view) (hits hit)))
      (λ miss. ap (λ (k : World). k.core) (event.none (misses miss)))
      (sees ∙ ⊎_elim
      (λ hit. rw (hits hit, eq-eqb found expects hit) refl)
      (λ miss. rw (misses miss, ne_eqb found expects miss) (ap sights.Lost word))
      (cases_eq found expects))
