-- A step that releases no page: of it the layer above sees an entry, the next page and the pages owed, at most. So
-- the step shows little more than what the pass
-- knows of pages and of the frames that it holds.
use mathlib.Core.Option as maybe
use Rattle.std.specs.Prelude.{map}
use Rattle.vm_event.specs.Prelude.{has_free_bit}
use Rattle.vm_rule.proofs.from_vm_numbers.Steps.{quiet_keeps}
use Rattle.vm_rule.specs.from_vm_numbers.Hands.{Hands, NumbersFit}
use Rattle.vm_rule.proofs.Numbered.{hands-still, numbers-as}
use Rattle.vm_rule.specs.{Rule.hands_of, Views.any}
use Rattle.vm_step.proofs.{Logical.logical-same, Written.IsWordOf}
use Rattle.vm_step.proofs.Prelude.{[], after_more, after_step, any-here, any-same, ap, append-none, arith, became}
use Rattle.vm_step.proofs.Prelude.{became_more, began_of, block_of, Bool, chosen, core_shown, Did, draft-is, draft_of}
use Rattle.vm_step.proofs.Prelude.{Each, Entry, entry_of, Event, false, fun_ext, get_elem?, has, Held, histories_of}
use Rattle.vm_step.proofs.Prelude.{inl, is_owed, is_pending, Kept, kept_of, KnowsOwners, KnowsPage, KnowsPages}
use Rattle.vm_step.proofs.Prelude.{last-same, Legal, List, listed, logical, may_call, no_held, Option, Origin, Out}
use Rattle.vm_step.proofs.Prelude.{Put, put_at, refl, replicate, Ruled, rules, seat_of, Shows, slice_set, Some, some}
use Rattle.vm_step.proofs.Prelude.{Start, State, Stored, subst, sym, Table, Tie, TieHolds, Translation}
use Rattle.vm_step.proofs.Prelude.{TranslationHolds, true, true≢false, View, World, world_after, world_of, ℕ, ⊎_elim}
use Rattle.vm_step.proofs.Prelude.{◌++◌, ◌<◌, ◌∙◌, ◌∷◌, ◌≡◌, ◌≢◌, ◌≤◌, ◌⊎◌}

-- ---- what follows of any such step

module _ {X B : Type 0} (stored : B → Stored) (keeps : Start → Kept X → Type 0)
    (tied : Start → ℕ → List ℕ → ℕ → List ℕ → Type 0) (start : Origin) (tells : Bool) (s : Table (Option B) (View X))
    (r : Ruled stored keeps tied start tells s) (id : ℕ) (v : View X) (words : List ℕ)
    (homes : List (maybe.Option (Option B))) (blocks : List Stored) (drafts : ℕ → List ℕ) (entries : List (Entry X))
    (did : Did) (inner : View X) (later : World) where
  abbrev after : View X
  after = after_more stored keeps tied start tells s r id v words homes blocks drafts [] entries did inner

  abbrev new : Table (Option B) (View X)
  new = became_more stored keeps tied start tells s r id v words homes blocks drafts [] entries did inner

  abbrev old : World
  old = world_of stored start r.releases r.drafts s

  -- the table shows this world then; each member still to be released keeps its draft, and the next page goes up, if
  -- it moves; no page number is taken or given, and the
  -- pages owed stay, or what is said of page numbers holds with those that come
  pub record LeadsTo : Type 0 where
    pub world : world_of stored start r.releases drafts new ≡ later
    pub pending : inner.pending ≡ v.pending
    pub members : (q : ℕ) → is_pending s.views q ≡ true → drafts q ≡ r.drafts q
    pub up : old.core.next ≤ later.core.next
    pub spares : later.core.spares ≡ old.core.spares
    pub numbers : inner.numbers ≡ v.numbers
    pub freed : inner.freed ≡ v.freed
    pub owes : (inner.owed ≡ v.owed)
        ⊎ (start.tells ≡ true → NumbersFit (has_free_bit later.core.spares) later.core.next
        (λ q. (old.histories q).last.words) (logical old.histories (is_pending s.views))
        (map hands_of (slice_set s.views id after)))

  -- so it does with the releases after the step, and this is so of the members and of what the layer above has then
  pub record HasLed : Type 0 where
    pub world : world_of stored start (r.releases ++ []) drafts new ≡ later
    pub pending : is_pending (slice_set s.views id after) ≡ is_pending s.views
    pub zero : start.tells ≡ true → (q : ℕ) → (core_shown stored start new).next ≤ q → q < start.pages
        → (histories_of start (r.releases ++ []) drafts q).last.words ≡ replicate start.size 0
    pub members : (q : ℕ) → has q inner.pending ≡ true
        → ((seat_of v q).exclusive ≡ true) × (start.tells ≡ true → (core_shown stored start new).next ≤ q
        → drafts q ≡ (histories_of start (r.releases ++ []) drafts q).last.words)
    pub fits : start.tells ≡ true → NumbersFit (has_free_bit (core_shown stored start new).spares)
        (core_shown stored start new).next (λ q. (histories_of start (r.releases ++ []) drafts q).last.words)
        (logical (histories_of start (r.releases ++ []) drafts) (is_pending (slice_set s.views id after)))
        (map hands_of (slice_set s.views id after))
    pub kept : kept_of (world_of stored start (r.releases ++ []) drafts new) (r.history ++ entries) (slice_set s.views id after)
        ≡ record (kept_of old r.history s.views) {
          next = later.core.next;
          owed = chosen start.pages (is_owed (slice_set s.views id after));
          history = r.history ++ entries;
        }

  module _ (there : get_elem? s.views id ≡ some v) (live : v.live ≡ true) (to : LeadsTo) where
    last-stays : (q : ℕ) → (histories_of start (r.releases ++ []) drafts q).last ≡ (histories_of start r.releases r.drafts q).last
    last-stays q = ap (λ l. (histories_of start l drafts q).last) (append-none r.releases) ∙ last-same start r.releases drafts r.drafts q

    world-told : world_of stored start (r.releases ++ []) drafts new ≡ later
    world-told = ap (λ l. world_of stored start l drafts new) (append-none r.releases) ∙ to.world

    past : (q : ℕ) → (core_shown stored start new).next ≤ q → old.core.next ≤ q
    past q le = let up = to.up in let same = ap (λ (w : World). w.core.next) to.world in omega (arith, up, same, le)

    pending-stays : is_pending (slice_set s.views id after) ≡ is_pending s.views
    pending-stays = fun_ext (λ q. any-same (λ (y : View X). has q y.pending) s.views id v after there (ap (has q) to.pending))

    logical-stays : logical (histories_of start (r.releases ++ []) drafts) (is_pending s.views) ≡ logical
        (histories_of start r.releases r.drafts) (is_pending s.views)
    logical-stays =
        fun_ext (λ q. logical-same (histories_of start (r.releases ++ []) drafts)
        (histories_of start r.releases r.drafts) (is_pending s.views) (is_pending s.views) q refl
        (λ t. draft-is start (r.releases ++ []) drafts q ∙ to.members q t ∙ sym (draft-is start r.releases r.drafts q))
        (λ _. ap (λ x. x.words) (last-stays q)))

    held-stays : (q : ℕ) → any (λ (y : View X). has q y.numbers) (slice_set s.views id after) ≡ any
        (λ (y : View X). has q y.numbers) s.views
    held-stays q = any-same (λ (y : View X). has q y.numbers) s.views id v after there (ap (has q) to.numbers)

    freed-stays : (q : ℕ) → any (λ (y : View X). has q y.freed) (slice_set s.views id after) ≡ any (λ (y : View X). has q y.freed) s.views
    freed-stays q = any-same (λ (y : View X). has q y.freed) s.views id v after there (ap (has q) to.freed)

    -- what is said of page numbers, in the world that the table shows then
    fits-then : start.tells ≡ true → NumbersFit (has_free_bit later.core.spares) later.core.next
        (λ q. (old.histories q).last.words) (logical old.histories (is_pending s.views))
        (map hands_of (slice_set s.views id after))
    fits-then t =
        ⊎_elim
        (λ same.
        let hands : hands_of after ≡ hands_of v = λ i. record {
          numbers = to.numbers i;
          freed = to.freed i;
          owed = same i;
          pending = to.pending i;
        } in
        subst (λ (f : ℕ → ℕ). NumbersFit (has_free_bit f) later.core.next (λ q. (old.histories q).last.words)
        (logical old.histories (is_pending s.views)) (map hands_of (slice_set s.views id after))) (sym to.spares)
        (subst (λ (l : List Hands). NumbersFit (has_free_bit old.core.spares) later.core.next
        (λ q. (old.histories q).last.words) (logical old.histories (is_pending s.views)) l)
        (sym (hands-still s.views id v after there hands))
        (quiet_keeps _ _ _ _ _ _ _ (map hands_of s.views) to.up (λ q. ((λ z. z), (λ z. z))) (r.numbers t))))
        (λ more. more t)
        to.owes

    pub has-led : HasLed
    has-led = record {
      world = world-told;
      pending = pending-stays;
      zero = λ t q le l. ap (λ x. x.words) (last-stays q) ∙ r.zero t q (past q le) l;
      members = λ q x.
          let was : has q v.pending ≡ true = sym (ap (has q) to.pending) ∙ x in
          let m = (r.known id v there live).pending q was in (
            m.0,
            λ t le.
                to.members q (any-here (λ (y : View X). has q y.pending) s.views id v there was)
                ∙ sym (draft-is start r.releases r.drafts q)
                ∙ m.1 t (past q le)
                ∙ sym (ap (λ y. y.words) (last-stays q)),
          );
      fits = λ t. numbers-as (ap (λ (w : World). has_free_bit w.core.spares) (sym world-told))
          (ap (λ (w : World). w.core.next) (sym world-told)) (fun_ext (λ q. ap (λ x. x.words) (sym (last-stays q))))
          (sym ((λ j. logical (histories_of start (r.releases ++ []) drafts) (pending-stays j)) ∙ logical-stays)) refl (fits-then t);
      kept = λ i. record {
        pages = listed start.pages (((λ j. logical (histories_of start (r.releases ++ []) drafts) (pending-stays j)) ∙ logical-stays) i);
        free = has_free_bit ((ap (λ (w : World). w.core.spares) world-told ∙ to.spares) i);
        held = λ q. held-stays q i;
        freed = λ q. freed-stays q i;
        next = ap (λ (w : World). w.core.next) world-told i;
        owed = chosen start.pages (is_owed (slice_set s.views id after));
        history = r.history ++ entries;
      };
    }

-- ---- a step that is an event, and moves no block

module _ {X B : Type 0} (stored : B → Stored) (keeps : Start → Kept X → Type 0)
    (tied : Start → ℕ → List ℕ → ℕ → List ℕ → Type 0) (start : Origin) (tells : Bool) (s : Table (Option B) (View X))
    (r : Ruled stored keeps tied start tells s) (id : ℕ) (v : View X) (words : List ℕ) (drafts : ℕ → List ℕ)
    (entries : List (Entry X)) (did : Did) (inner : View X) (e : Event) where
  abbrev views : List (View X)
  views = slice_set s.views id (after_step stored keeps tied start tells s r words [] entries did inner)

  abbrev now : World
  now = world_of stored start r.releases r.drafts s

  abbrev then : World
  then = world_after now e

  -- what is to be shown of it, where all may change but what every such step leaves
  pub record ShowsEvent : Type 0 where
    pub word : IsWordOf start s.words words did
    pub legal : Legal now.core e
    pub leads : LeadsTo stored keeps tied start tells s r id v words s.homes
        (listed start.pages (block_of stored s.homes s.views)) drafts entries did inner then
    pub same : (inner.live ≡ v.live) × (inner.start ≡ v.start) × (inner.used ≡ v.used) × (inner.fresh ≡ v.fresh)
        × (inner.notes ≡ v.notes) × (inner.log ≡ v.log) × (inner.out ≡ v.out)
    pub calls : (o : Out) → v.out ≡ Some o → may_call (seat_of inner o.page) ≡ true
    pub holds : (q : ℕ) → (seat_of v q).exclusive ≡ true → (seat_of inner q).exclusive ≡ true
    pub knows : (q : ℕ) → KnowsPage (seat_of inner q) (put_at no_held inner.held q) (then.core.pages q)
    pub owners : KnowsOwners then.core.owners (seat_of inner) (put_at no_held inner.held)
    pub contents : (f : ℕ) → has f inner.frames ≡ true → put_at [] inner.contents f ≡ then.core.words f
    pub drafted : (q : ℕ) → (seat_of inner q).exclusive ≡ true → draft_of inner q ≡ drafts q
    pub owes : (q : ℕ) → has q inner.owed ≡ true → ((seat_of inner q).exclusive ≡ true) × (start.next ≤ q)
        × (q < then.core.next) × (has q inner.pending ≡ false)
    pub next : (x : ℕ) → inner.next ≡ Some x → ((seat_of inner x).exclusive ≡ true) × (then.core.next ≡ x)
    pub loaded : (l : List Translation) × (inner.translations ≡ l ++ v.translations) × Each (TranslationHolds then.core.pages) l
    pub tying : (l : List Tie) × (inner.ties ≡ l ++ v.ties)
        × (start.tells ≡ true → Each (TieHolds tied (began_of start) then (is_pending s.views)) l)
    pub says : ((entries ≡ []) ⊎ ((x : X) × (entries ≡ entry_of v x ∷ []))) × (inner.mine ≡ v.mine ++ entries)
    pub owner : start.tells ≡ true → keeps (began_of start) (kept_of now r.history s.views)
        → keeps (began_of start) (record (kept_of now r.history s.views) {
          next = then.core.next;
          owed = chosen start.pages (is_owed views);
          history = r.history ++ entries;
        })

  pub event-shows : get_elem? s.views id ≡ some v → v.live ≡ true → ShowsEvent → Shows stored keeps tied start tells s
      r id v words drafts [] entries did inner e
  event-shows there live sh =
      let led : HasLed stored keeps tied start tells s r id v words s.homes
      (listed start.pages (block_of stored s.homes s.views)) drafts entries did inner then =
      has-led stored keeps tied start tells s r id v words s.homes
      (listed start.pages (block_of stored s.homes s.views)) drafts entries did inner then there live sh.leads in
      let new : Table (Option B) (View X) = record { words = words; homes = s.homes; views = views } in
      let core : core_shown stored start new ≡ then.core = ap (λ (w : World). w.core) sh.leads.world in
      let known = subst (λ (c : State).
      ((q : ℕ) → KnowsPage (seat_of inner q) (put_at no_held inner.held q) (c.pages q)) × KnowsOwners c.owners
      (seat_of inner) (put_at no_held inner.held)
      × ((f : ℕ) → has f inner.frames ≡ true → put_at [] inner.contents f ≡ c.words f)
      × ((q : ℕ) → has q inner.owed ≡ true → ((seat_of inner q).exclusive ≡ true) × (start.next ≤ q) × (q < c.next)
      × (has q inner.pending ≡ false))
      × ((x : ℕ) → inner.next ≡ Some x → ((seat_of inner x).exclusive ≡ true) × (c.next ≡ x))
      × ((l : List Translation) × (inner.translations ≡ l ++ v.translations) × Each (TranslationHolds c.pages) l))
      (sym core) (sh.knows, sh.owners, sh.contents, sh.owes, sh.next, sh.loaded) in
      let pending : (q : ℕ) → has q inner.pending ≡ true → ((seat_of inner q).exclusive ≡ true)
      × (start.tells ≡ true → (core_shown stored start new).next ≤ q
      → drafts q ≡ (histories_of start (r.releases ++ []) drafts q).last.words)
      = λ q x. let m = led.members q x in (sh.holds q m.0, m.1) in
      let ties = λ (t : start.tells ≡ true).
      subst (λ (w : World). Each (TieHolds tied (began_of start) w (is_pending views)) sh.tying.0) (sym led.world)
      (subst (λ (f : ℕ → Bool). Each (TieHolds tied (began_of start) then f) sh.tying.0) (sym led.pending) (sh.tying.2 t)) in
      let tying : (l : List Tie) × (inner.ties ≡ l ++ v.ties)
      × (start.tells ≡ true → Each
      (TieHolds tied (began_of start) (world_of stored start (r.releases ++ []) drafts new) (is_pending views))
      l) = (sh.tying.0, sh.tying.1, ties) in
      let members : (q : ℕ) → has q v.pending ≡ true → has q inner.pending ≡ false
      → ((core_shown stored start new).pages q).version ≢ (now.core.pages q).version = λ q was gone.
      absurd (true≢false (sym was ∙ sym (ap (has q) sh.leads.pending) ∙ gone)) in
      let owner = λ (t : start.tells ≡ true) (kept : keeps (began_of start) (kept_of now r.history s.views)).
      subst (keeps (began_of start)) (sym led.kept) (sh.owner t kept) in
      search (rules, sh, led, led.fits, known, pending, tying, members, owner)

-- ---- where nothing is said, and the pages owed and the next page are as they were

module _ {X B : Type 0} (stored : B → Stored) (keeps : Start → Kept X → Type 0)
    (tied : Start → ℕ → List ℕ → ℕ → List ℕ → Type 0) (start : Origin) (tells : Bool) (s : Table (Option B) (View X))
    (r : Ruled stored keeps tied start tells s) (id : ℕ) (v : View X) (words : List ℕ) (drafts : ℕ → List ℕ)
    (did : Did) (inner : View X) (e : Event) where
  abbrev before : World
  before = world_of stored start r.releases r.drafts s

  abbrev behind : View X
  behind = after_step stored keeps tied start tells s r words [] [] did inner

  pub record ShowsQuiet : Type 0 where
    pub word : IsWordOf start s.words words did
    pub legal : Legal before.core e
    pub world : world_of stored start r.releases drafts (became stored keeps tied start tells s words id behind) ≡ world_after before e
    pub leaves : inner ≡ record v {
      seats = inner.seats;
      loads = inner.loads;
      held = inner.held;
      drafts = inner.drafts;
      frames = inner.frames;
      contents = inner.contents;
      translations = inner.translations;
    }
    pub calls : (o : Out) → v.out ≡ Some o → may_call (seat_of inner o.page) ≡ true
    -- the pass holds what it held; drafts stay, but of pages that were not held
    pub holds : (q : ℕ) → (seat_of v q).exclusive ≡ true → (seat_of inner q).exclusive ≡ true
    pub members : (q : ℕ) → is_pending s.views q ≡ true → drafts q ≡ r.drafts q
    pub next : (world_after before e).core.next ≡ before.core.next
    pub spares : (world_after before e).core.spares ≡ before.core.spares
    pub knows : (q : ℕ) → KnowsPage (seat_of inner q) (put_at no_held inner.held q) ((world_after before e).core.pages q)
    pub owners : KnowsOwners (world_after before e).core.owners (seat_of inner) (put_at no_held inner.held)
    pub contents : (f : ℕ) → has f inner.frames ≡ true
        → put_at [] inner.contents f ≡ (world_after before e).core.words f
    pub drafted : (q : ℕ) → (seat_of inner q).exclusive ≡ true → draft_of inner q ≡ drafts q
    pub loaded : (l : List Translation) × (inner.translations ≡ l ++ v.translations)
        × Each (TranslationHolds (world_after before e).core.pages) l

  module _ (there : get_elem? s.views id ≡ some v) (live : v.live ≡ true) where
    pub quiet-shows : ShowsQuiet → Shows stored keeps tied start tells s r id v words drafts [] [] did inner e
    quiet-shows sh =
        let k : KnowsPages tied start before (is_pending s.views) v = r.known id v there live in
        let pending : inner.pending ≡ v.pending = ap (λ (x : View X). x.pending) sh.leaves in
        let owed : inner.owed ≡ v.owed = ap (λ (x : View X). x.owed) sh.leaves in
        let owed-stays : is_owed (slice_set s.views id behind) ≡ is_owed s.views =
        fun_ext (λ q. any-same (λ (y : View X). has q y.owed) s.views id v behind there (ap (has q) owed)) in
        let leads : LeadsTo stored keeps tied start tells s r id v words s.homes
        (listed start.pages (block_of stored s.homes s.views)) drafts [] did inner (world_after before e)
        = record {
          world = sh.world;
          pending = pending;
          members = sh.members;
          up = let same = sh.next in omega (arith, same);
          spares = sh.spares;
          numbers = ap (λ (x : View X). x.numbers) sh.leaves;
          freed = ap (λ (x : View X). x.freed) sh.leaves;
          owes = inl owed;
        } in
        let owes : (q : ℕ) → has q inner.owed ≡ true → ((seat_of inner q).exclusive ≡ true) × (start.next ≤ q)
        × (q < (world_after before e).core.next) × (has q inner.pending ≡ false)
        = λ q x. let m = k.owed q (sym (ap (has q) owed) ∙ x) in
        (sh.holds q m.0, m.1, subst (λ n. q < n) (sym sh.next) m.2, ap (has q) pending ∙ m.3) in
        let next : (x : ℕ) → inner.next ≡ Some x → ((seat_of inner x).exclusive ≡ true) × ((world_after before e).core.next ≡ x)
        = λ x is. let m = k.next x (sym (ap (λ (y : View X). y.next) sh.leaves) ∙ is) in (sh.holds x m.0, sh.next ∙ m.1) in
        let tying : (l : List Tie) × (inner.ties ≡ l ++ v.ties)
        × (start.tells ≡ true → Each (TieHolds tied (began_of start) (world_after before e) (is_pending s.views))
        l) = ([], ap (λ (x : View X). x.ties) sh.leaves, λ _. tt) in
        let owner = λ (t : start.tells ≡ true). subst (keeps (began_of start))
        (λ i. record (kept_of before r.history s.views) {
          next = sym sh.next i;
          owed = chosen start.pages (sym owed-stays i);
          history = sym (append-none r.history) i;
        }) in
        event-shows stored keeps tied start tells s r id v words drafts [] did inner e there live
        (search (rules, inl, leads, owes, next, tying, ap (λ (x : View X). x.mine) sh.leaves ∙ sym (append-none v.mine), owner))

-- where seats, drafts and reads stay as well: what is known of pages may change, and the frames and their words
module _ {X B : Type 0} (stored : B → Stored) (keeps : Start → Kept X → Type 0)
    (tied : Start → ℕ → List ℕ → ℕ → List ℕ → Type 0) (start : Origin) (tells : Bool) (s : Table (Option B) (View X))
    (r : Ruled stored keeps tied start tells s) (id : ℕ) (v : View X) (words : List ℕ) (did : Did)
    (held : List (Put Held)) (frames : List ℕ) (contents : List (Put (List ℕ))) (e : Event)
    (there : get_elem? s.views id ≡ some v) (live : v.live ≡ true) where
  abbrev was : World
  was = world_of stored start r.releases r.drafts s

  abbrev with_these : View X
  with_these = record v { held = held; frames = frames; contents = contents }

  pub held-shows : IsWordOf start s.words words did → Legal was.core e
      → world_of stored start r.releases r.drafts
      (became stored keeps tied start tells s words id
      (after_step stored keeps tied start tells s r words [] [] did with_these)) ≡ world_after was e
      → (world_after was e).core.next ≡ was.core.next
      → (world_after was e).core.spares ≡ was.core.spares
      → ((q : ℕ) → KnowsPage (seat_of v q) (put_at no_held held q) ((world_after was e).core.pages q))
      → KnowsOwners (world_after was e).core.owners (seat_of v) (put_at no_held held)
      → ((f : ℕ) → has f frames ≡ true → put_at [] contents f ≡ (world_after was e).core.words f)
      → Shows stored keeps tied start tells s r id v words r.drafts [] [] did with_these e
  held-shows word legal world next spares knows owners contents' =
      let calls = λ (o : Out) (x : v.out ≡ Some o). (r.blocks.away id v o there x).1 in
      let drafted = λ (q : ℕ) (x : (seat_of v q).exclusive ≡ true). (r.known id v there live).drafts q x
      ∙ draft-is start r.releases r.drafts q in
      let loaded : (l : List Translation) × (v.translations ≡ l ++ v.translations)
      × Each (TranslationHolds (world_after was e).core.pages) l = ([], refl, tt) in
      quiet-shows stored keeps tied start tells s r id v words r.drafts did with_these e there live (search (rules, calls, drafted, loaded))
