-- A release of a page, as Unlocked, as Evicted or to a share: what it shows of itself, what the layer above keeps
-- over it; that the table allows it, and
-- that it is its event.
--
-- What a release leaves: it speaks of one page, whose exclusive lock it gives up, of what the pass says, and of the
-- group. So do a release of a
-- page that is not resident, and a release to a share, which say nothing.
use Rattle.vm_event.specs.declared.event.Seen.TheVariants as sights
use Rattle.std.proofs.Math.Bool.{and-false, and-true}
use Rattle.std.specs.Prelude.{◌&&◌, ◌==◌, if◌then◌else◌, map}
use Rattle.vm_event.specs.Prelude.{has_free_bit}
use Rattle.vm_rule.specs.from_vm_numbers.Hands.{all_zero, Hands, NumbersFit, zeroed}
use Rattle.vm_owner.specs.Kept.{after_release as released_kept, changed, frees, MayMove, moved, NumberMove}
use Rattle.vm_owner.specs.Kept.NumberMove.{Ended}
use Rattle.vm_rule.specs.Releases.{freed_by}
use Rattle.vm_rule.specs.Rule.{hands_of}
use Rattle.vm_rule.proofs.{NumberReleases.first-release-fits, NumberReleases.later-release-fits}
use Rattle.vm_rule.proofs.{Numbered.hands-there, Numbered.numbers-as}
use Rattle.vm_event.specs.Groups.{IsUngrouped}
use Rattle.vm_rule.specs.declared.view.WordPlace.TheVariants as places
use Rattle.vm_step.proofs.{Asides.alone-release, Evidenced.next-stays, Fit.fit, Keeping.kept-now, Keeping.shared-free}
use Rattle.vm_step.proofs.{OwedPages.owed_after-chosen, Releasing.Way.Evicts, Standing.allows, steps.Look.is-turn}
use Rattle.vm_step.proofs.{Unclaimed.draft-unclaimed, Written.spelled-still, Written.stands-there}
use Rattle.vm_step.proofs.Groups.{changed-listed, chosen-has, has-without_all}
use Rattle.vm_step.proofs.Groups.{has-without_all_other, has-without_all_same, listed-agrees}
use Rattle.vm_step.proofs.Logical.{logical-draft, logical-last, logical-same, not-pending, page-listed}
use Rattle.vm_step.proofs.Mine.{member-mine, no-member, not-member, not-owed, owed-mine}
use Rattle.vm_step.proofs.Prelude.{[], after_release, Agrees, AllowsStep, any-here, any-same, any-true, ap}
use Rattle.vm_step.proofs.Prelude.{append-none, AreApart, AreSized, AreUnchanged, arith, at-bound, at_set, began_of}
use Rattle.vm_step.proofs.Prelude.{Bool, Brings, BringsWith, cases_Bool, cases_eq, Change, changes_of, chosen}
use Rattle.vm_step.proofs.Prelude.{cond-false, core_shown, Did, did_store, DowngradeIsItsEvent, DowngradeTold}
use Rattle.vm_step.proofs.Prelude.{draft-is, draft_of, Each, entries_of, Entry, eq-eqb, eqb, EVICTED, EvictTold}
use Rattle.vm_step.proofs.Prelude.{false, false_from_ne_true, false≢true, Fits, frame_of, has-both, has-without_other}
use Rattle.vm_step.proofs.Prelude.{fun_ext, get_elem?, has, histories_of, History, index_of, is_owed, is_pending}
use Rattle.vm_step.proofs.Prelude.{IsEvent, IsFirst, IsKeptNow, IsLater, IsMember, IsPlacedAt, IsTurn, Kept, kept_of}
use Rattle.vm_step.proofs.Prelude.{KnowsPage, last-is, last_in, last_of, LeavesRest, length, length-set, List}
use Rattle.vm_step.proofs.Prelude.{listed-same, loads_at, LOCKED, locked-here, logical, MAX_VERSION, may_call}
use Rattle.vm_step.proofs.Prelude.{MayDowngrade, MayEvict, MayGiveUp, ne_eqb, next-here, no_held, no_seat, None}
use Rattle.vm_step.proofs.Prelude.{Option, or_parts, Origin, owed_after, Page, page_at, put, put_at, refl, Release}
use Rattle.vm_step.proofs.Prelude.{release-here, released_same, released_view, ReleaseEvictedIsItsEvent}
use Rattle.vm_step.proofs.Prelude.{ReleaseIsItsEvent, ReleaseTells, ReleaseTold, replicate, Ruled, Seat, seat_of}
use Rattle.vm_step.proofs.Prelude.{became, set_here, Shows, Table, slice_index, TableShape}
use Rattle.vm_step.proofs.Prelude.{slice_set, Some, some, Stands, Start}
use Rattle.vm_step.proofs.Prelude.{StaysAlone, steps, Stored, subst, suc, sym, table_after, told_of, true, true≢false}
use Rattle.vm_step.proofs.Prelude.{upd-other, upd-same, View, without, without-none, word_of, world_of, ℕ, ⊎_elim}
use Rattle.vm_step.proofs.Prelude.{◌++◌, ◌+◌, ◌<◌, ◌||◌, ◌∙◌, ◌∷◌, ◌≡◌, ◌≢◌, ◌≤◌}
use Rattle.vm_step.proofs.Releasing.{calls-p, changes-each, changes-pages, claimed, downgraded-is, downgrading}
use Rattle.vm_step.proofs.Releasing.{draft-known, each-has, entries-one, event, evicted-is, evicted-same, evicting}
use Rattle.vm_step.proofs.Releasing.{frames-are, freed-none, giving-up, hands-are, held-zero, history-else, inner}
use Rattle.vm_step.proofs.Releasing.{last-here, last-known, left, left-actor, left-exclusive, left-sees, left-step}
use Rattle.vm_step.proofs.Releasing.{member-is, member-page, members-are, mine, new, number-kept, numbers-for}
use Rattle.vm_step.proofs.Releasing.{numbers-kept, next-is, next-kept, next-version, numbers_after, old, own}
use Rattle.vm_step.proofs.Releasing.{owners-are, page-else, page-here, release-legal, released-state}
use Rattle.vm_step.proofs.Releasing.{released-version, releases, Releasing, seat-else, seat-p, seat_left, spares-are}
use Rattle.vm_step.proofs.Releasing.{state_left, still-owns, tells-here, unwritten, Way, word, words, world-is}
use Rattle.vm_step.proofs.steps.Event.{is-event}
use Rattle.vm_step.proofs.steps.Leaving.{apart, LeavesOthers, LeavesOwn, others-tied, own-from, rest-of}

-- what holds of page p, and of each other page, holds of all
at-page : (P : ℕ → Type 0) (p : ℕ) → P p → ((q : ℕ) → q ≢ p → P q) → (q : ℕ) → P q
at-page P p here else' q = ⊎_elim (λ e. subst P (sym e) here) (else' q) (cases_eq q p)

-- no release leaves the page locked exclusively
left-free : (way : Way) → state_left way ≢ LOCKED
left-free Evicts e = omega (arith, e)
left-free _ e = omega (arith, e)

-- changes of pages that keep their length
sized-each : (cs : List Change) → Each (λ c. length c.new ≡ length c.old) cs → AreSized cs
sized-each [] e = tt
sized-each (c ∷ cs) e = (e.0, sized-each cs e.1)

changes-many : {X : Type 0} (v : View X) (qs : List ℕ) → length (changes_of v qs) ≡ length qs
changes-many v [] = refl
changes-many v (q ∷ qs) = ap suc (changes-many v qs)

-- the changes free what the pass frees by them
swapped : (x q : ℕ) → eqb x q ≡ eqb q x
swapped x q = ⊎_elim (λ e. eq-eqb x q e ∙ sym (eq-eqb q x (sym e)))
    (λ ne. ne_eqb x q ne ∙ sym (ne_eqb q x (λ e. ne (sym e)))) (cases_eq x q)

frees-one : (b : Bool) (x q : ℕ) (f : Bool) (l : List ℕ) → f ≡ has q l
    → ((eqb x q && b) || f) ≡ has q (if b then x ∷ l else l)
frees-one true x q f l e = (λ i. (and-true (eqb x q) ∙ swapped x q) i || e i)
frees-one false x q f l e = ap (λ b. b || f) (and-false (eqb x q)) ∙ e

frees-has : {X : Type 0} (v : View X) (qs : List ℕ) (q : ℕ) → frees (changes_of v qs) q ≡ has q (freed_by v qs)
frees-has v [] q = refl
frees-has v (x ∷ qs) q = frees-one (zeroed (λ n. (last_of v n).words) (draft_of v) x) x q (frees (changes_of v qs) q)
    (freed_by v qs) (frees-has v qs q)

module _ {X B : Type 0} {stored : B → Stored} {keeps : Start → Kept X → Type 0}
    {tied : Start → ℕ → List ℕ → ℕ → List ℕ → Type 0} {start : Origin} {tells : Bool}
    {may_release : Start → List ℕ → List Change → List (Entry X) → Type 0}
    (rel : Releasing stored keeps tied start tells may_release) where
  abbrev before : Kept X
  before = kept_of (old rel) rel.r.history rel.s.views

  abbrev w : View X
  w = left rel

  -- the histories, and who is a member still to be released, before and after
  abbrev h : ℕ → History
  h = histories_of start rel.r.releases rel.r.drafts

  abbrev h' : ℕ → History
  h' = histories_of start (releases rel) rel.r.drafts

  abbrev m' : ℕ → Bool
  m' = is_pending (slice_set rel.s.views rel.id w)

  abbrev after : Kept X
  after = kept_of (world_of stored start (releases rel) rel.r.drafts (new rel))
      (rel.r.history ++ entries_of rel.v rel.said) (slice_set rel.s.views rel.id w)

  still-pending : (q : ℕ) → has q (inner rel).pending ≡ true → ((seat_of (inner rel) q).exclusive ≡ true)
      × (start.tells ≡ true → (core_shown stored start (new rel)).next ≤ q
      → rel.r.drafts q ≡ (histories_of start (releases rel) rel.r.drafts q).last.words)
  still-pending q e =
      let m = (members-are rel).among q e in
      let last : (histories_of start (releases rel) rel.r.drafts q).last.words ≡ ((old rel).histories q).last.words =
      ap (λ (h : History). h.last.words) (history-else rel q m.0) in
      ⊎_elim
      (λ was. let k = (mine rel).pending q was in (
        still-owns rel q m.0 k.0,
        λ t le. sym (draft-is start rel.r.releases rel.r.drafts q)
            ∙ k.1 t (subst (λ n. n ≤ q) (next-is rel) le) ∙ sym last,
      ))
      (λ came. let k = member-is rel q came in (
        still-owns rel q m.0 k.owns,
        λ t le. sym (draft-known rel q k.owns) ∙ claimed rel q k t
            (subst (λ n. n ≤ q) (next-is rel) le) ∙ sym last,
      ))
      m.1

  still-owed : (q : ℕ) → has q (inner rel).owed ≡ true → ((seat_of (inner rel) q).exclusive ≡ true) × (start.next ≤ q)
      × (q < (core_shown stored start (new rel)).next) × (has q (inner rel).pending ≡ false)
  still-owed q e =
      let k = has-without_all (rel.p ∷ rel.rest) rel.v.owed q e in
      let o = (mine rel).owed q k.0 in
      let none = or_parts (eqb q rel.p) (has q rel.rest) k.1 in
      let ne : q ≢ rel.p = (λ h. true≢false (sym (eq-eqb q rel.p h) ∙ none.0)) in
      (still-owns rel q ne o.0, o.1, subst (λ n. q < n) (sym (next-is rel)) o.2, (members-are rel).others q ne none.1 ∙ o.3)

  -- what is said of page numbers holds after it
  numbers-fit : start.tells ≡ true → NumbersFit (has_free_bit (old rel).core.spares) (old rel).core.next
      (λ q. (h' q).last.words) (logical h' m') (map hands_of (slice_set rel.s.views rel.id w))
  numbers-fit t =
      ⊎_elim
      (λ (first : IsFirst may_release rel.p rel.rest rel.said rel.v).
      let member : (q : ℕ) → has q (rel.p ∷ rel.rest) ≡ true → IsMember rel.v q =
      λ q e. each-has (IsMember rel.v) (rel.p ∷ rel.rest) q first.members e in
      first-release-fits stored keeps tied start tells rel.s rel.r rel.id rel.v rel.there rel.live t rel.p rel.rest rel.said first.apart.0
      (λ q e. member-page rel q (member q e)) (λ q e. (member q e).owns) (λ q e. (member q e).free)
      (λ q e. (member q e).claimed (tells-here rel ∙ t)) w (hands-are rel t) (own rel) refl refl)
      (λ (later : IsLater rel.p rel.rest rel.said rel.v).
      later-release-fits stored keeps tied start tells rel.s rel.r rel.id rel.v rel.there rel.live t rel.p rel.said
      rel.inside later.pending w
      (hands-are rel t ∙ ap (λ l. hands_of (released_view rel.p l rel.said rel.v)) later.alone) (own rel) refl refl)
      rel.group

  pub release-shows : (start.tells ≡ true → keeps (began_of start) before → keeps (began_of start) after)
      → Shows stored keeps tied start tells rel.s rel.r rel.id rel.v (words rel) rel.r.drafts (own rel ∷ [])
      (entries_of rel.v rel.said) (did_store (places.State rel.p) (word rel)) (inner rel) (event rel)
  release-shows owner = record {
    wide = length-set rel.s.words (index_of start (places.State rel.p)) (word rel) ∙ rel.r.wide.0;
    spelled = spelled-still start rel.s.words (places.State rel.p) (word rel) rel.r.wide.0 rel.inside refl rel.r.spelled;
    legal = release-legal rel;
    world = world-is rel;
    at = rel.inside;
    found = tt;
    wrote = stands-there start rel.s.words (places.State rel.p) (word rel) rel.r.wide.0 rel.inside;
    live = refl;
    same_start = refl;
    used = refl;
    fresh = refl;
    notes = refl;
    log = refl;
    out = refl;
    calls = λ o e. ap may_call (seat-else rel o.page (rel.home o e)) ∙ (rel.r.blocks.away rel.id rel.v o rel.there e).1;
    entry = entries-one rel.v rel.said;
    mine = refl;
    next_versions = (ap (λ n. n + 1) (next-version rel), tt);
    zero = λ t. at-page (λ q. (core_shown stored start (new rel)).next ≤ q → q < start.pages
        → (h' q).last.words ≡ replicate start.size 0) rel.p
        (λ le l. let early = subst (λ n. n ≤ rel.p) (next-is rel) le in last-here rel ∙ unwritten rel t early
        ∙ rel.r.zero t rel.p early rel.inside)
        (λ q ne le l. ap (λ (y : History). y.last.words) (history-else rel q ne) ∙ rel.r.zero t q (subst (λ n. n ≤ q) (next-is rel) le) l);
    numbers = λ t. numbers-as (ap has_free_bit (sym (spares-are rel))) (sym (next-is rel)) refl refl refl (numbers-fit t);
    knows = at-page (λ q. KnowsPage (seat_of (inner rel) q) (put_at no_held rel.v.held q)
        ((core_shown stored start (new rel)).pages q)) rel.p
        (subst (λ y. KnowsPage y (put_at no_held rel.v.held rel.p) ((core_shown stored start (new rel)).pages rel.p)) (sym (seat-p rel))
        (subst (λ y. KnowsPage (seat_left rel.way (seat_of rel.v rel.p)) (put_at no_held rel.v.held rel.p) y) (sym (page-here rel))
        (record {
          calls = λ _. ((mine rel).knows rel.p).calls (calls-p rel);
          shares = λ _. ap frame_of (((mine rel).knows rel.p).calls (calls-p rel)).0;
        })))
        (λ q ne. subst (λ y. KnowsPage y (put_at no_held rel.v.held q) ((core_shown stored start (new rel)).pages q))
        (sym (seat-else rel q ne))
        (subst (λ y. KnowsPage (seat_of rel.v q) (put_at no_held rel.v.held q) y) (sym (page-else rel q ne)) ((mine rel).knows q)));
    owners = λ q m x at.
        let calls : may_call (seat_of rel.v q) ≡ true =
        ⊎_elim (λ (e : q ≡ rel.p). ap (λ n. may_call (seat_of rel.v n)) e ∙ calls-p rel)
        (λ ne. sym (ap may_call (seat-else rel q ne)) ∙ x) (cases_eq q rel.p) in
        (mine rel).owners q m calls at ∙ sym (owners-are rel m.frame);
    contents = λ f e. (mine rel).contents f e ∙ sym (frames-are rel f);
    drafted = at-page (λ q. (seat_of (inner rel) q).exclusive ≡ true → draft_of rel.v q ≡ rel.r.drafts q) rel.p
        (λ owns. absurd (false≢true
        (sym (ap (λ (y : Seat). y.exclusive) (seat-p rel) ∙ left-exclusive rel.way (seat_of rel.v rel.p))
        ∙ owns)))
        (λ q ne owns. draft-known rel q (sym (ap (λ (y : Seat). y.exclusive) (seat-else rel q ne)) ∙ owns));
    pending = still-pending;
    owed = still-owed;
    next = λ n e. let k = next-kept rel.p rel.v.next n e in let o = (mine rel).next n k.1 in
        (still-owns rel n k.0 o.0, (next-is rel) ∙ o.1);
    loaded = ([], refl, tt);
    tying = ([], refl, λ _. tt);
    members = at-page (λ q. has q rel.v.pending ≡ true → has q (inner rel).pending ≡ false
        → ((core_shown stored start (new rel)).pages q).version ≢ ((old rel).core.pages q).version) rel.p
        (λ _ _ same. let more = ap (λ (y : Page). y.version) (page-here rel) in omega (arith, more, same))
        (λ q ne was gone. absurd (true≢false (sym ((members-are rel).stays q ne was) ∙ gone)));
    owner = owner;
  }

  -- a page that was never claimed has logical words of zeros after it
  release-zero : Shows stored keeps tied start tells rel.s rel.r rel.id rel.v (words rel) rel.r.drafts (own rel ∷ [])
      (entries_of rel.v rel.said) (did_store (places.State rel.p) (word rel)) (inner rel) (event rel)
      → start.tells ≡ true → (q : ℕ) → (core_shown stored start (new rel)).next ≤ q → q < start.pages
      → logical (histories_of start (releases rel) rel.r.drafts)
      (is_pending (slice_set rel.s.views rel.id (left rel))) q ≡ replicate start.size 0
  release-zero shows t q le l =
      let early : (old rel).core.next ≤ q = subst (λ n. n ≤ q) (next-is rel) le in
      ⊎_elim
      (λ e. let k = any-true (λ (u : View X). has q u.pending) (slice_set rel.s.views rel.id (left rel)) e in
      logical-draft h' m' q e
      ∙ draft-is start (releases rel) rel.r.drafts q
      ∙ ⊎_elim
      (λ (own_page : (k.0 ≡ rel.id) × (left rel ≡ k.1)).
      (shows.pending q (subst (λ (u : View X). has q u.pending ≡ true) (sym own_page.1) k.3)).1 t le
      ∙ shows.zero t q le l)
      (λ (other : (k.0 ≢ rel.id) × (get_elem? rel.s.views k.0 ≡ some k.1)).
      sym (draft-is start rel.r.releases rel.r.drafts q) ∙ draft-unclaimed stored keeps tied start tells rel.s rel.r t
      k.0 k.1 q other.1 k.3 early ∙ rel.r.zero t q early l)
      (at_set rel.s.views rel.id k.0 (left rel) k.1 k.2))
      (λ none. logical-last h' m' q none ∙ shows.zero t q le l)
      (cases_Bool (m' q))

  pub release-kept : Ruled stored keeps tied start tells (new rel)
      → (start.tells ≡ true → keeps (began_of start) before → keeps (began_of start) after)
      → tells ≡ true → IsKeptNow keeps rel.p (Unit {0}) (left rel)
  release-kept ruled owner t =
      let telling : start.tells ≡ true = rel.r.telling ∙ t in
      let same : (left rel).start ≡ start = (rel.r.heard rel.id rel.v rel.there rel.live).same_start in
      let free : ((core_shown stored start (new rel)).pages rel.p).state ≢ LOCKED =
      (λ e. left-free rel.way (sym (ap (λ (y : Page). y.state) (page-here rel)) ∙ e)) in
      kept-now stored keeps start (new rel) rel.r.drafts (left rel) rel.p (Unit {0}) rel.inside same (owner telling (rel.r.owner telling))
      (λ _. not-pending stored keeps tied start tells (new rel) ruled rel.p rel.inside free)
      (λ q e. (
        any-here (λ (u : View X). has q u.pending) (slice_set rel.s.views rel.id (left rel)) rel.id (left rel)
            (set_here rel.s.views rel.id (left rel) (at-bound rel.s.views rel.id rel.v rel.there)) e,
        sym (draft-known rel q (⊎_elim (λ was. ((mine rel).pending q was).0) (λ comes. (member-is rel q comes).owns)
            ((members-are rel).among q e).1)),
      ))
      (no-member stored keeps tied start tells (new rel) ruled rel.id (left rel)
      (set_here rel.s.views rel.id (left rel) (at-bound rel.s.views rel.id rel.v rel.there)) rel.live)
      (release-zero (release-shows owner) telling)
      (λ _. ap (λ (o : Origin). slice_index (words rel) (index_of o places.Next)) same ∙ sym (next-here stored start (new rel)))
      (shared-free stored keeps tied start tells (new rel) ruled rel.id (left rel)
      (set_here rel.s.views rel.id (left rel) (at-bound rel.s.views rel.id rel.v rel.there)))

  -- it is its event, after which the pass holds the page no more
  left-event : {did : Did} {released : List Release} {entries : List (Entry X)} {y w : View X}
      → BringsWith did None released entries rel.v y w
      → y.out ≡ rel.v.out → y.frames ≡ rel.v.frames → y.numbers ≡ numbers_after rel.way rel.p rel.v
      → y.loads ≡ rel.v.loads → y.seats ≡ put rel.p (seat_left rel.way (seat_of rel.v rel.p)) rel.v.seats
      → IsEvent stored start rel.s (table_after rel.s (words rel) rel.id w) (event rel) sights.Done
  left-event {w = w} b out frames numbers loads seats =
      is-event (release-legal rel)
      (left-step stored start rel.way rel.s [] (λ _. []) rel.id rel.v w rel.p (word rel) rel.r.wide.0 rel.inside rel.there
      (ap (λ (x : View X). x.out) b.view ∙ out) (ap (λ (x : View X). x.frames) b.view ∙ frames)
      (numbers-for rel.way (old rel).core rel.p rel.v w (number-kept rel)
      (ap (λ (x : View X). x.numbers) b.view ∙ numbers)) (ap (λ (x : View X). x.loads) b.view ∙ loads)
      (ap (λ (x : View X). x.seats) b.view ∙ seats)
      (released-state rel) (released-version rel))
      (left-sees rel.way (core_shown stored start rel.s) rel.id rel.p)

  -- ---- the logical words

  -- the released page's are the words that were its draft
  logical-here : logical h' m' rel.p ≡ draft_of rel.v rel.p
  logical-here =
      logical-last h' m' rel.p (not-member stored keeps tied start tells rel.s rel.r rel.id rel.v rel.there rel.live
      rel.p w rel.inside rel.owns (members-are rel).gone)
      ∙ last-here rel

  -- so are the drafts of the members that are still to be released
  logical-member : (q : ℕ) → has q rel.rest ≡ true → logical h' m' q ≡ draft_of rel.v q
  logical-member q e =
      logical-draft h' m' q (any-here (λ (u : View X). has q u.pending) (slice_set rel.s.views rel.id w) rel.id w
      (set_here rel.s.views rel.id w (at-bound rel.s.views rel.id rel.v rel.there)) ((members-are rel).comes q e))
      ∙ draft-is start (releases rel) rel.r.drafts q
      ∙ sym (draft-known rel q (member-is rel q e).owns)

  -- no other page's change
  logical-else : (q : ℕ) → q ≢ rel.p → has q rel.rest ≡ false → logical h' m' q ≡ logical h (is_pending rel.s.views) q
  logical-else q ne none =
      logical-same h' h m' (is_pending rel.s.views) q
      (any-same (λ (u : View X). has q u.pending) rel.s.views rel.id rel.v w rel.there
      ((members-are rel).others q ne none))
      (λ _. ap (λ (y : History). y.draft) (history-else rel q ne))
      (λ _. ap (λ (y : History). y.last.words) (history-else rel q ne))

  -- ---- the page numbers, where the blocks tell their words

  module _ (t : start.tells ≡ true) where
    numbers-are : (b : Bool) → all_zero (draft_of rel.v rel.p) ≡ b
        → w.numbers ≡ (if b then rel.v.numbers else without rel.p rel.v.numbers)
    numbers-are b is = ap (λ (x : Hands). x.numbers) (hands-are rel t)
        ∙ ap (λ c. if c then rel.v.numbers else without rel.p rel.v.numbers) ((λ i. (tells-here rel ∙ t) i && is i))

    -- with words that are all 0 the pass holds what it held
    held-same : all_zero (draft_of rel.v rel.p) ≡ true → after.held ≡ before.held
    held-same z = fun_ext (λ q. any-same (λ (u : View X). has q u.numbers) rel.s.views rel.id rel.v w rel.there
        (ap (has q) (numbers-are true z)))

    -- with others nobody holds the page's number, and each other one is held as it was
    nobody : all_zero (draft_of rel.v rel.p) ≡ false → after.held rel.p ≡ false
    nobody z =
        false_from_ne_true (after.held rel.p)
        (λ e. let k = any-true (λ (u : View X). has rel.p u.numbers) (slice_set rel.s.views rel.id w) e in
        true≢false (sym ((numbers-fit t).held k.0 (hands_of k.1)
        (hands-there (slice_set rel.s.views rel.id w) k.0 k.1 k.2) rel.p k.3).0 ∙ ap all_zero (last-here rel)
        ∙ z))

    held-ends : all_zero (draft_of rel.v rel.p) ≡ false
        → after.held ≡ (λ q. if q == rel.p then false else before.held q)
    held-ends z =
        fun_ext (λ q. ⊎_elim
        (λ (e : q ≡ rel.p). ap after.held e ∙ nobody z ∙ sym (ap (λ b. if b then false else before.held q) (eq-eqb q rel.p e)))
        (λ (ne : q ≢ rel.p).
        any-same (λ (u : View X). has q u.numbers) rel.s.views rel.id rel.v w rel.there
        (ap (has q) (numbers-are false z) ∙ has-without_other rel.p q rel.v.numbers ne)
        ∙ sym (ap (λ b. if b then false else before.held q) (ne_eqb q rel.p ne)))
        (cases_eq q rel.p))

  free-same : after.free ≡ before.free
  free-same = ap has_free_bit (spares-are rel)

  -- ---- the first of a group

  module _ (first : IsFirst may_release rel.p rel.rest rel.said rel.v) where
    member : (q : ℕ) → has q (rel.p ∷ rel.rest) ≡ true → IsMember rel.v q
    member q e = each-has (IsMember rel.v) (rel.p ∷ rel.rest) q first.members e

    page : (q : ℕ) → has q (rel.p ∷ rel.rest) ≡ true → q < start.pages
    page q e = member-page rel q (member q e)

    -- a member was none before
    free : (q : ℕ) → has q (rel.p ∷ rel.rest) ≡ true → is_pending rel.s.views q ≡ false
    free q e =
        false_from_ne_true (is_pending rel.s.views q)
        (λ t. true≢false (sym (member-mine stored keeps tied start tells rel.s rel.r rel.id rel.v rel.there
        rel.live q (page q e) (member q e).owns t) ∙ (member q e).free))

    new-words : (q : ℕ) → has q (rel.p ∷ rel.rest) ≡ true → logical h' m' q ≡ draft_of rel.v q
    new-words q e =
        ⊎_elim (λ (same : q ≡ rel.p). ap (logical h' m') same ∙ logical-here ∙ ap (draft_of rel.v) (sym same))
        (λ ne. logical-member q (sym (ap (λ b. b || has q rel.rest) (ne_eqb q rel.p ne)) ∙ e)) (cases_eq q rel.p)

    agrees : Agrees before.pages (changes_of rel.v (rel.p ∷ rel.rest))
    agrees = listed-agrees start.pages (logical h (is_pending rel.s.views)) (changes_of rel.v (rel.p ∷ rel.rest))
        (changes-each rel.v (λ c. (c.page < start.pages) × (logical h (is_pending rel.s.views) c.page ≡ c.old))
        (rel.p ∷ rel.rest) (λ q e. (
          page q e,
          (logical-last h (is_pending rel.s.views) q (free q e)
              ∙ sym (last-known rel q (member q e).owns)),
        )))

    fits : Fits before rel.v.owed (changes_of rel.v (rel.p ∷ rel.rest))
    fits = record {
      agrees = agrees;
      apart = subst AreApart (sym (changes-pages rel.v (rel.p ∷ rel.rest))) first.apart;
      sized = sized-each (changes_of rel.v (rel.p ∷ rel.rest))
          (changes-each rel.v (λ c. length c.new ≡ length c.old) (rel.p ∷ rel.rest) (λ q e.
          ap length (draft-known rel q (member q e).owns ∙ sym (draft-is start rel.r.releases rel.r.drafts q))
          ∙ (rel.r.inv.pages q).sizes.draft
          (locked-here stored start rel.s rel.id q rel.v (rel.r.inv.pages q).locks (page q e) rel.there
          (member q e).owns)
          ∙ sym (ap length (last-known rel q (member q e).owns) ∙ (rel.r.inv.pages q).sizes.last)));
      few = (let few = first.few in let many = changes-many rel.v rel.rest in omega (arith, few, many));
      owed = λ q e.
          let o = (mine rel).owed q e in
          let inside = rel.r.inv.next in
          let l : q < start.pages = (let lt = o.2 in omega (arith, lt, inside)) in
          chosen-has start.pages (is_owed rel.s.views) q l ∙ any-here (λ (u : View X). has q u.owed) rel.s.views rel.id rel.v rel.there e;
    }

    -- the pages that are owed after it
    owed-released : owed_after (changes_of rel.v (rel.p ∷ rel.rest)) before.owed ≡ chosen start.pages
        (is_owed (slice_set rel.s.views rel.id w))
    owed-released =
        let pages = changes-pages rel.v (rel.p ∷ rel.rest) in
        owed_after-chosen (changes_of rel.v (rel.p ∷ rel.rest)) start.pages (is_owed rel.s.views) (is_owed (slice_set rel.s.views rel.id w))
        (λ q l e. let e' : has q (rel.p ∷ rel.rest) ≡ true = sym (ap (has q) pages) ∙ e in
        not-owed stored keeps tied start tells rel.s rel.r rel.id rel.v rel.there rel.live q w l
        (member q e').owns (has-without_all_same (rel.p ∷ rel.rest) rel.v.owed q e'))
        (λ q l e. any-same (λ (u : View X). has q u.owed) rel.s.views rel.id rel.v w rel.there
        (has-without_all_other (rel.p ∷ rel.rest) rel.v.owed q (sym (ap (has q) pages) ∙ e)))

    -- the pages that it frees
    freed-are : start.tells ≡ true → after.freed ≡ (λ q. frees (changes_of rel.v (rel.p ∷ rel.rest)) q || before.freed q)
    freed-are t =
        let group : List ℕ = freed_by rel.v (rel.p ∷ rel.rest) in
        let now : w.freed ≡ group ++ rel.v.freed = ap (λ (x : Hands). x.freed) (hands-are rel t)
        ∙ ap (λ b. if b then rel.v.freed else group ++ rel.v.freed)
        (member rel.p (ap (λ b. b || has rel.p rel.rest) (eq-eqb rel.p rel.p refl))).free in
        let has-now : (q : ℕ) → has q w.freed ≡ (has q group || has q rel.v.freed) = λ q. ap (has q) now ∙ has-both q group rel.v.freed in
        fun_ext (λ q. ⊎_elim
        (λ (e : has q group ≡ true).
        any-here (λ (u : View X). has q u.freed) (slice_set rel.s.views rel.id w) rel.id w
        (set_here rel.s.views rel.id w (at-bound rel.s.views rel.id rel.v rel.there))
        (has-now q ∙ ap (λ b. b || has q rel.v.freed) e)
        ∙ sym (ap (λ b. b || before.freed q) (frees-has rel.v (rel.p ∷ rel.rest) q ∙ e)))
        (λ (none : has q group ≡ false).
        any-same (λ (u : View X). has q u.freed) rel.s.views rel.id rel.v w rel.there (has-now q ∙ ap (λ b. b || has q rel.v.freed) none)
        ∙ sym (ap (λ b. b || before.freed q) (frees-has rel.v (rel.p ∷ rel.rest) q ∙ none)))
        (cases_Bool (has q group)))

    pages-are : changed (changes_of rel.v (rel.p ∷ rel.rest)) before.pages ≡ after.pages
    pages-are =
        changed-listed start.pages (logical h (is_pending rel.s.views)) (logical h' m')
        (changes_of rel.v (rel.p ∷ rel.rest))
        (changes-each rel.v (λ c. (c.page < start.pages) × (logical h' m' c.page ≡ c.new)) (rel.p ∷ rel.rest)
        (λ q e. (page q e, new-words q e)))
        (λ q l none. let k = apart-of q (sym (ap (has q) (changes-pages rel.v (rel.p ∷ rel.rest))) ∙ none) in logical-else q k.0 k.1)
      where
        apart-of : (q : ℕ) → has q (rel.p ∷ rel.rest) ≡ false → (q ≢ rel.p) × (has q rel.rest ≡ false)
        apart-of q e = let none = or_parts (eqb q rel.p) (has q rel.rest) e in
            ((λ same. true≢false (sym (eq-eqb q rel.p same) ∙ none.0)), none.1)

    -- what the layer above keeps after it, with the numbers that are held then
    after-is : start.tells ≡ true → (held : ℕ → Bool) → after.held ≡ held
        → record (released_kept (changes_of rel.v (rel.p ∷ rel.rest)) (entries_of rel.v rel.said) before) {
          held =
              held;
        } ≡ after
    after-is t held is = λ i. record {
      pages = pages-are i;
      next = sym (next-is rel) i;
      owed = owed-released i;
      free = sym free-same i;
      held = sym is i;
      freed = sym (freed-are t) i;
      history = rel.r.history ++ entries_of rel.v rel.said;
    }

    -- without an entry and a change, all is as before
    unchanged : rel.said ≡ None → AreUnchanged rel.v.owed (changes_of rel.v (rel.p ∷ rel.rest))
        → released_kept (changes_of rel.v (rel.p ∷ rel.rest)) (entries_of rel.v rel.said) before ≡ before
    unchanged none same =
        ap (λ o. released_kept (changes_of rel.v (rel.p ∷ rel.rest)) (entries_of rel.v o) before) none
        ∙ released_same before rel.v.owed (changes_of rel.v (rel.p ∷ rel.rest)) agrees
        (λ q e due. let e' : has q (rel.p ∷ rel.rest) ≡ true = sym (ap (has q) (changes-pages rel.v (rel.p ∷ rel.rest))) ∙ e in
        chosen-has start.pages (is_owed rel.s.views) q (page q e')
        ∙ false_from_ne_true (is_owed rel.s.views q)
        (λ t. true≢false (sym (owed-mine stored keeps tied start tells rel.s rel.r rel.id rel.v rel.there rel.live
        q (page q e') (member q e').owns t) ∙ due)))
        same

    pub first-keeps : (law : (start : Start) (kept : Kept X) (due : List ℕ) (changes : List Change)
        (entries : List (Entry X)) → keeps start kept → Fits kept due changes → IsTurn kept.history entries
        → may_release start due changes entries → keeps start (released_kept changes entries kept))
        → ((start : Start) (kept : Kept X) (move : NumberMove) → keeps start kept → MayMove kept move
        → keeps start (moved move kept))
        → 0 < length rel.v.used → start.tells ≡ true → keeps (began_of start) before → keeps (began_of start) after
    first-keeps law moves number t kept =
        let same = (rel.r.heard rel.id rel.v rel.there rel.live).same_start in
        let released : keeps (began_of start) (released_kept (changes_of rel.v (rel.p ∷ rel.rest)) (entries_of rel.v rel.said) before) =
        ⊎_elim
        (λ k. subst (keeps (began_of start)) (sym (unchanged k.0 k.1)) kept)
        (λ may. law (began_of start) before rel.v.owed (changes_of rel.v (rel.p ∷ rel.rest))
        (entries_of rel.v rel.said) kept fits
        (is-turn start rel.r.releases rel.r.history rel.v rel.said (rel.r.heard rel.id rel.v rel.there rel.live)
        number) (subst (λ (o : Origin). may_release (began_of o) rel.v.owed (changes_of rel.v (rel.p ∷ rel.rest))
        (entries_of rel.v rel.said)) same may))
        (first.owner (ap (λ (o : Origin). o.tells) same ∙ t)) in
        let here : page_at (changed (changes_of rel.v (rel.p ∷ rel.rest)) before.pages) rel.p ≡ draft_of rel.v rel.p =
        ap (λ l. page_at l rel.p) pages-are ∙ page-listed start.pages (logical h' m') rel.p rel.inside
        ∙ logical-here in
        ⊎_elim
        (λ z. subst (keeps (began_of start)) (after-is t before.held (held-same t z)) released)
        (λ z. subst (keeps (began_of start))
        (after-is t (λ q. if q == rel.p then false else before.held q) (held-ends t z))
        (moves (began_of start) _ (Ended rel.p) released (ap all_zero here ∙ z)))
        (cases_Bool (all_zero (draft_of rel.v rel.p)))

  -- ---- a later member

  pub later-keeps : IsLater rel.p rel.rest rel.said rel.v
      → ((start : Start) (kept : Kept X) (move : NumberMove) → keeps start kept → MayMove kept move
      → keeps start (moved move kept)) → start.tells ≡ true → keeps (began_of start) before
      → keeps (began_of start) after
  later-keeps later moves t kept =
      let member : is_pending rel.s.views rel.p ≡ true = any-here (λ (u : View X). has rel.p u.pending) rel.s.views
      rel.id rel.v rel.there later.pending in
      let none : (q : ℕ) → has q rel.rest ≡ false = λ q. ap (has q) later.alone in
      let was : logical h (is_pending rel.s.views) rel.p ≡ draft_of rel.v rel.p =
      logical-draft h (is_pending rel.s.views) rel.p member ∙ draft-is start rel.r.releases rel.r.drafts rel.p
      ∙ sym (draft-known rel rel.p rel.owns) in
      let same-words : (q : ℕ) → logical h (is_pending rel.s.views) q ≡ logical h' m' q =
      at-page (λ q. logical h (is_pending rel.s.views) q ≡ logical h' m' q) rel.p
      (was ∙ sym logical-here)
      (λ q ne. sym (logical-else q ne (none q))) in
      let due : has rel.p rel.v.owed ≡ false = false_from_ne_true (has rel.p rel.v.owed)
      (λ e. true≢false (sym later.pending ∙ ((mine rel).owed rel.p e).3)) in
      let owed-same : (q : ℕ) → has q w.owed ≡ has q rel.v.owed = at-page (λ q. has q w.owed ≡ has q rel.v.owed) rel.p
      (has-without_all_same (rel.p ∷ rel.rest) rel.v.owed rel.p (ap (λ b. b || has rel.p rel.rest) (eq-eqb rel.p rel.p refl)) ∙ sym due)
      (λ q ne. has-without_all_other (rel.p ∷ rel.rest) rel.v.owed q (ap (λ b. b || has q rel.rest) (ne_eqb q rel.p ne) ∙ none q)) in
      let freed-same : after.freed ≡ before.freed =
      fun_ext (λ q. any-same (λ (u : View X). has q u.freed) rel.s.views rel.id rel.v w rel.there
      (ap (has q) (ap (λ (x : Hands). x.freed) (hands-are rel t)
      ∙ ap (λ b. if b then rel.v.freed else freed_by rel.v (rel.p ∷ rel.rest) ++ rel.v.freed) later.pending))) in
      let after-is : (held : ℕ → Bool) → after.held ≡ held → record before { held = held } ≡ after = λ held is i. record {
        pages = listed-same start.pages (logical h (is_pending rel.s.views)) (logical h' m') (λ q _. same-words q) i;
        next = sym (next-is rel) i;
        owed = chosen start.pages
            (sym (fun_ext (λ q. any-same (λ (u : View X). has q u.owed) rel.s.views rel.id rel.v w rel.there
            (owed-same q))) i);
        free = sym free-same i;
        held = sym is i;
        freed = sym freed-same i;
        history = sym (ap (λ o. rel.r.history ++ entries_of rel.v o) later.silent ∙ append-none rel.r.history) i;
      } in
      let here : page_at before.pages rel.p ≡ draft_of rel.v rel.p =
      page-listed start.pages (logical h (is_pending rel.s.views)) rel.p rel.inside ∙ was in
      ⊎_elim
      (λ z. subst (keeps (began_of start)) (after-is before.held (held-same t z)) kept)
      (λ z. subst (keeps (began_of start))
      (after-is (λ q. if q == rel.p then false else before.held q) (held-ends t z))
      (moves (began_of start) before (Ended rel.p) kept (ap all_zero here ∙ z)))
      (cases_Bool (all_zero (draft_of rel.v rel.p)))

module _ {X B : Type 0} (stored : B → Stored) (keeps : Start → Kept X → Type 0)
    (tied : Start → ℕ → List ℕ → ℕ → List ℕ → Type 0) (may_release : Start → List ℕ → List Change → List (Entry X)
    → Type 0)
    (law : (start : Start) (kept : Kept X) (due : List ℕ) (changes : List Change) (entries : List (Entry X))
    → keeps start kept → Fits kept due changes → IsTurn kept.history entries
    → may_release start due changes entries → keeps start (after_release changes entries kept))
    (moves : (start : Start) (kept : Kept X) (move : NumberMove) → keeps start kept → MayMove kept move
    → keeps start (moved move kept)) where
  -- the layer above keeps its relation
  release-owner : (start : Origin) (tells : Bool) (rel : Releasing stored keeps tied start tells may_release)
      → 0 < length rel.v.used
      → start.tells ≡ true → keeps (began_of start) (kept_of (old rel) rel.r.history rel.s.views)
      → keeps (began_of start)
      (kept_of (world_of stored start (releases rel) rel.r.drafts (new rel))
      (rel.r.history ++ entries_of rel.v rel.said) (slice_set rel.s.views rel.id (left rel)))
  release-owner start tells rel number t kept = ⊎_elim (λ first. first-keeps rel first law moves number t kept)
      (λ later. later-keeps rel later moves t kept) rel.group

  -- either release keeps the rule and tells what it brings
  release-steps : (start : Origin) (tells : Bool) (rel : Releasing stored keeps tied start tells may_release)
      → 0 < length rel.v.used
      → Ruled stored keeps tied start tells (new rel) × Brings (did_store (places.State rel.p) (word rel))
      (own rel ∷ []) (entries_of rel.v rel.said) rel.v (inner rel) (left rel)
  release-steps start tells rel number =
      steps stored keeps tied start tells rel.s rel.r rel.id rel.v (words rel) rel.r.drafts (own rel ∷ [])
      (entries_of rel.v rel.said) (did_store (places.State rel.p) (word rel)) (inner rel) (event rel) rel.there
      rel.live number
      (left-actor rel.way rel.id rel.p) refl
      (release-shows rel (release-owner start tells rel number))

  module _ (start : Origin) (tells : Bool) (s : Table (Option B) (View X)) (r : Ruled stored keeps tied start tells s)
      (id : ℕ) (v : View X) (there : get_elem? s.views id ≡ some v) (live : v.live ≡ true) (number : 0 < length v.used)
      (p version : ℕ) (low : p < start.pages) (below : version < MAX_VERSION) where
    -- where the word becomes x, the table meets the rule with some view of the pass of which this is told, and what
    -- the layer above keeps
    abbrev LeavesAt : ℕ → (View X → View X → Type 0) → Type 0
    LeavesAt x told = (w : View X) × Ruled stored keeps tied start tells
        (became stored keeps tied start tells s (slice_set s.words p x) id w) × ReleaseTells keeps tells p told v w

    pub release-plays : (rest : List ℕ) (said : Option X) → MayGiveUp may_release p version rest said v
        → LeavesAt (version + 1) (ReleaseTold p version rest said)
    release-plays rest said g =
        let rel : Releasing stored keeps tied start tells may_release = giving-up s r id v there live p version rest said low below g in
        let k = release-steps start tells rel number in (
          left rel,
          k.0,
          (
            record {
              brings = k.1;
              numbers = λ t same. numbers-kept p v t same (held-zero rel (sym (tells-here rel) ∙ t));
            },
            release-kept rel k.0 (release-owner start tells rel number),
          ),
        )

    -- a page that is not resident becomes Evicted, with the words that it had
    pub release_evicted-plays : MayEvict v p version → LeavesAt (word_of EVICTED (version + 1)) (EvictTold p version)
    release_evicted-plays g =
        let rel : Releasing stored keeps tied start tells may_release = evicting s r id v there live p version low below g in
        let k = release-steps start tells rel number in (
          left rel,
          k.0,
          (
            record {
              brings = subst (λ y. Brings (did_store (places.State p) (word_of EVICTED (version + 1))) (own rel ∷ []) []
                  v y (left rel)) (evicted-is v p version g) k.1;
              same = evicted-same s r id v there live p version low g;
            },
            release-kept rel k.0 (release-owner start tells rel number),
          ),
        )

    -- a page is released to a share of the pass
    pub downgrade-plays : MayDowngrade may_release v p version
        → LeavesAt (word_of 1 (version + 1)) (DowngradeTold p version)
    downgrade-plays g =
        let rel : Releasing stored keeps tied start tells may_release = downgrading s r id v there live p version low below g in
        let k = release-steps start tells rel number in (
          left rel,
          k.0,
          (
            record {
              brings = subst (λ y. Brings (did_store (places.State p) (word_of 1 (version + 1))) (own rel ∷ []) [] v y
                  (left rel)) (downgraded-is v p version g) k.1;
              numbers = λ t same. numbers-kept p v t same (held-zero rel (sym (tells-here rel) ∙ t));
            },
            release-kept rel k.0 (release-owner start tells rel number),
          ),
        )

  -- so it is on every table
  pub release-allows : (shape : TableShape) (tells : Bool) (slots id : ℕ) (v : View X) (i : ℕ) (p version : ℕ)
      (rest : List ℕ) (said : Option X) → v.live ≡ true → 0 < length v.used → p < shape.pages → version < MAX_VERSION
      → MayGiveUp may_release p version rest said v → IsPlacedAt shape (places.State p) i
      → IsUngrouped shape.began.origin.groups p
      → AllowsStep (Stands stored keeps tied shape tells) slots id v i (λ _. version + 1)
      (told_of shape tells (λ _. ReleaseTells keeps tells p (ReleaseTold p version rest said)))
  release-allows shape tells slots id v i p version rest said live number l below g is none =
      allows stored keeps tied shape tells slots id v i (places.State p) (λ _. version + 1) (λ _. version + 1)
      (λ _. ReleaseTells keeps tells p (ReleaseTold p version rest said)) live is
      (λ start has. subst (λ (o : Origin). IsUngrouped o.groups p) (sym has.same) none) (λ _. refl)
      (λ _ w t. fit t.0.brings live number)
      (λ start has s r there _. release-plays start tells s r id v there live number p version
      (subst (λ n. p < n) (sym has.pages) l) below rest said g)

  pub release_evicted-allows : (shape : TableShape) (tells : Bool) (slots id : ℕ) (v : View X) (i : ℕ)
      (p version x : ℕ) → v.live ≡ true → 0 < length v.used → p < shape.pages → version < MAX_VERSION
      → MayEvict v p version → x ≡ word_of EVICTED (version + 1) → IsPlacedAt shape (places.State p) i
      → IsUngrouped shape.began.origin.groups p
      → AllowsStep (Stands stored keeps tied shape tells) slots id v i (λ _. x)
      (told_of shape tells (λ _. ReleaseTells keeps tells p (EvictTold p version)))
  release_evicted-allows shape tells slots id v i p version x live number l below g spells is none =
      allows stored keeps tied shape tells slots id v i (places.State p) (λ _. x) (λ _. word_of EVICTED (version + 1))
      (λ _. ReleaseTells keeps tells p (EvictTold p version)) live is
      (λ start has. subst (λ (o : Origin). IsUngrouped o.groups p) (sym has.same) none) (λ _. spells)
      (λ _ w t. fit t.0.brings live number)
      (λ start has s r there _. release_evicted-plays start tells s r id v there live number p version
      (subst (λ n. p < n) (sym has.pages) l) below g)

  pub downgrade-allows : (shape : TableShape) (tells : Bool) (slots id : ℕ) (v : View X) (i : ℕ) (p version x : ℕ)
      → v.live ≡ true → 0 < length v.used → p < shape.pages → version < MAX_VERSION
      → MayDowngrade may_release v p version → x ≡ word_of 1 (version + 1) → IsPlacedAt shape (places.State p) i
      → IsUngrouped shape.began.origin.groups p
      → AllowsStep (Stands stored keeps tied shape tells) slots id v i (λ _. x)
      (told_of shape tells (λ _. ReleaseTells keeps tells p (DowngradeTold p version)))
  downgrade-allows shape tells slots id v i p version x live number l below g spells is none =
      allows stored keeps tied shape tells slots id v i (places.State p) (λ _. x) (λ _. word_of 1 (version + 1))
      (λ _. ReleaseTells keeps tells p (DowngradeTold p version)) live is
      (λ start has. subst (λ (o : Origin). IsUngrouped o.groups p) (sym has.same) none) (λ _. spells)
      (λ _ w t. fit t.0.brings live number)
      (λ start has s r there _. downgrade-plays start tells s r id v there live number p version
      (subst (λ n. p < n) (sym has.pages) l) below g)

module _ {X B : Type 0} (stored : B → Stored) (keeps : Start → Kept X → Type 0)
    (tied : Start → ℕ → List ℕ → ℕ → List ℕ → Type 0) (tells : Bool) where
  pub release-event : (may_release : Start → List ℕ → List Change → List (Entry X) → Type 0)
      → ReleaseIsItsEvent stored keeps tied tells may_release
  release-event may_release start s id p version rest said v w pass lp below g told =
      left-event (giving-up s pass.rule id v pass.there pass.live p version rest said lp below g) told.brings refl refl refl refl refl

  pub release_evicted-event : (may_release : Start → List ℕ → List Change → List (Entry X) → Type 0)
      → ReleaseEvictedIsItsEvent stored keeps tied tells
  release_evicted-event may_release start s id p version v w pass lp below g told =
      left-event {may_release = may_release} (evicting s pass.rule id v pass.there pass.live p version lp below g)
      told.brings refl refl refl refl refl

  pub downgrade-event : (may_release : Start → List ℕ → List Change → List (Entry X) → Type 0)
      → DowngradeIsItsEvent stored keeps tied tells may_release
  downgrade-event may_release start s id p version v w pass lp below g told =
      left-event (downgrading s pass.rule id v pass.there pass.live p version lp below g) told.brings refl refl refl refl refl

-- ---- the last version of the page

pub released-last : {X : Type 0} {did : Did} {r : Release} {entries : List _} {v inner w : View X}
    → BringsWith did None (r ∷ []) entries v inner w → inner.start ≡ v.start → last_of w r.page ≡ record {
      version = r.version;
      words = r.words;
    }
released-last {X = X} {r = r} {v = v} b start =
    ap (λ (x : View X). last_in x.start x.releases r.page) b.view
    ∙ ap (λ s. last_in s ((v.releases ++ b.between) ++ r ∷ []) r.page) start
    ∙ last-is v.start ((v.releases ++ b.between) ++ r ∷ []) (λ k. []) r.page
    ∙ ap (λ (h : History). h.last) (release-here v.start (v.releases ++ b.between) (λ k. []) r)

-- ---- resident

module _ {X : Type 0} {p version : ℕ} {rest : List ℕ} {said : Option X} {v w : View X} (t : ReleaseTold p version rest said v w) where
  abbrev pub release-own : Release
  release-own = record { page = p; version = version + 1; words = draft_of v p }

  pub release-others : (touched : ℕ → Type 0) → touched p
      → LeavesOthers touched (did_store (places.State p) (version + 1) ∷ []) (release-own ∷ []) v w
  release-others touched at = others-tied t.brings ([], refl) (at, tt)
      (λ q ne. upd-other (put_at no_seat v.seats) p _ q (apart touched at q ne)) (λ q ne. refl) (λ q ne. refl)
      (λ q ne. refl)

  pub release-seat : seat_of w p ≡ record (seat_of v p) { exclusive = false }
  release-seat = ap (λ (x : View X). seat_of x p) t.brings.view ∙ upd-same (put_at no_seat v.seats) p _

  pub release-loads : (q : ℕ) → loads_at w q ≡ loads_at v q
  release-loads q = ap (λ (x : View X). loads_at x q) t.brings.view

  pub release-last : last_of w p ≡ record { version = version + 1; words = draft_of v p }
  release-last = released-last t.brings refl

-- alone, with the words that the page had, of a page that was not claimed, which is not the next one, and without a
-- word to say
module _ {X : Type 0} {p version : ℕ} {v w : View X} (t : ReleaseTold p version [] None v w) where
  pub release-silent : has p v.pending ≡ false → has p v.owed ≡ false → v.next ≢ Some p
      → draft_of v p ≡ (last_of v p).words → LeavesOwn v w
  release-silent free paid next same =
      own-from t.brings (append-none v.mine)
      (cond-false (has p v.pending) (without p v.pending) v.pending free, without-none p v.owed paid, next-stays p v.next next) (
        refl,
        λ tells. (
          t.numbers tells same,
          cond-false (has p v.pending) v.freed (freed_by v (p ∷ []) ++ v.freed)
              free ∙ ap (λ l. l ++ v.freed) (freed-none p v same),
        ),
      )

  -- a pass that is alone finds the words as they were, where the draft had them
  pub release-alone : draft_of v p ≡ (last_of v p).words → StaysAlone v w
  release-alone = alone-release (did_store (places.State p) (version + 1)) p (version + 1) (draft_of v p) _ v _ w t.brings refl

-- ---- not resident

module _ {X : Type 0} {p version : ℕ} {v w : View X} (t : EvictTold p version v w) where
  pub evict-others : (touched : ℕ → Type 0) → touched p
      → LeavesOthers touched (did_store (places.State p) (word_of EVICTED (version + 1)) ∷ []) ((record {
        page = p;
        version = version + 1;
        words = draft_of v p;
      }) ∷ []) v w
  evict-others touched at = others-tied t.brings ([], refl) (at, tt)
      (λ q ne. upd-other (put_at no_seat v.seats) p _ q (apart touched at q ne)) (λ q ne. refl) (λ q ne. refl)
      (λ q ne. refl)

  pub evict-silent : v.next ≢ Some p → LeavesOwn v w
  evict-silent next = own-from t.brings refl (refl, refl, next-stays p v.next next) (refl, λ _. (refl, refl))

  pub evict-leaves : v.next ≢ Some p → LeavesRest p (did_store (places.State p) (word_of EVICTED (version + 1)) ∷ []) v w
  evict-leaves next = rest-of (evict-others (λ q. q ≡ p) refl) (evict-silent next)

  pub evict-seat : seat_of w p ≡ record (seat_of v p) { exclusive = false }
  evict-seat = ap (λ (x : View X). seat_of x p) t.brings.view ∙ upd-same (put_at no_seat v.seats) p _

  pub evict-last : last_of w p ≡ record { version = version + 1; words = draft_of v p }
  evict-last = released-last t.brings refl

  pub evict-alone : draft_of v p ≡ (last_of v p).words → StaysAlone v w
  evict-alone = alone-release (did_store (places.State p) (word_of EVICTED (version + 1))) p (version + 1)
      (draft_of v p) [] v _ w t.brings refl

-- ---- to a share

module _ {X : Type 0} {p version : ℕ} {v w : View X} (t : DowngradeTold p version v w) where
  pub downgrade-others : (touched : ℕ → Type 0) → touched p
      → LeavesOthers touched ((did_store (places.State p) (word_of 1 (version + 1))) ∷ []) ((record {
        page = p;
        version = version + 1;
        words = draft_of v p;
      }) ∷ []) v w
  downgrade-others touched at = others-tied t.brings ([], refl) (at, tt)
      (λ q ne. upd-other (put_at no_seat v.seats) p _ q (apart touched at q ne)) (λ q ne. refl) (λ q ne. refl)
      (λ q ne. refl)

  pub downgrade-seat : seat_of w p ≡ record (seat_of v p) { shares = 1; exclusive = false }
  downgrade-seat = ap (λ (x : View X). seat_of x p) t.brings.view ∙ upd-same (put_at no_seat v.seats) p _

  pub downgrade-last : last_of w p ≡ record { version = version + 1; words = draft_of v p }
  downgrade-last = released-last t.brings refl
