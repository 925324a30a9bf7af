-- The moves of a page's slot: the slots, and the blocks that are read from them; what a move shows of itself that
-- changes no block, or brings one home.
use Rattle.std.proofs.Common.{eq-eqb, ne_eqb}
use mathlib.Core.Option as maybe
use Rattle.atomic_table.proofs.Lists.{at_set as list-set}
use Rattle.vm_event.specs.Prelude.{has_free_bit}
use Rattle.vm_event.proofs.{At.at_set, PageFacts.none-some}
use Rattle.vm_step.specs.from_vm_rule.Slots.DeviceDid.{failed, read, wrote}
use Rattle.vm_step.specs.from_vm_rule.declared_view_WordPlace_TheVariants as places
use Rattle.vm_step.proofs.{Here.last-told, Quiet.has-led, Quiet.HasLed, Written.IsWordOf, Written.word-loaded}
use Rattle.vm_step.proofs.Prelude.{[], after_more, any-same, ap, append-none, arith, at, at-bound, at_home}
use Rattle.vm_step.proofs.Prelude.{became_more, began_of, block-here, block_after, block_of, BlocksFit, Bool, Brings}
use Rattle.vm_step.proofs.Prelude.{called, called-inv, called-left, caller-here, cases_Bool, cases_eq, chosen}
use Rattle.vm_step.proofs.Prelude.{core-block, core_from, core_shown, count_more, DeviceDid, Did, did_load, draft-is}
use Rattle.vm_step.proofs.Prelude.{Each, each-upd, each-upd2, false, faults-still, FaultsFit, frames_held, holdings}
use Rattle.vm_step.proofs.Prelude.{numbers_held, numbers-still, fun_ext, get_elem?, has, Held, held-still, held_at}
use Rattle.vm_step.proofs.Prelude.{histories_of, home, home_view, idle, index_of, inl, inr, Inv, is_owed, is_pending}
use Rattle.vm_step.proofs.Prelude.{IsBlockOf, IsCalled, IsSome, Kept, kept_of, known, KnowsOwner, KnowsOwners}
use Rattle.vm_step.proofs.Prelude.{KnowsPage, KnowsPages, leave_others, Leaves, length, length-set, List, listed}
use Rattle.vm_step.proofs.Prelude.{listed-upd, loads-still, LOCKED, locked-here, Mapping, may_call, MayCall}
use Rattle.vm_step.proofs.Prelude.{nat_tests, NLoad, no_held, None, Note, on_page, Option, or_cases, Origin, Out}
use Rattle.vm_step.proofs.Prelude.{out_at, out_of, out_or, out_view, Page, Put, put, put_at, refl, ReturnTold, Ruled}
use Rattle.vm_step.proofs.Prelude.{rules, Seat, seat-here, seat_of, seats-still, seats_of, shared-here, ShiftTold}
use Rattle.vm_step.proofs.Prelude.{ShowsMore, slice_index, slice_set, slot_of, SlotTold, Some, some, some-injective}
use Rattle.vm_step.proofs.Prelude.{some-is, some-same, Start, State, steps_more, Stored, subst, suc, sym, Table}
use Rattle.vm_step.proofs.Prelude.{table_words, Tie, TieHolds, Translation, TranslationHolds, true, true≢false, upd}
use Rattle.vm_step.proofs.Prelude.{upd-is, upd-other, upd-same, upd-self, Version, View, words_held, World, world_of}
use Rattle.vm_step.proofs.Prelude.{zero, ℕ, ⊎_elim, ◌++◌, ◌<◌, ◌||◌, ◌∙◌, ◌∷◌, ◌≡◌, ◌≢◌, ◌≤◌}

-- an element in range, by its function
pub get-at : {A : Type 0} (d : A) (l : List A) (i : ℕ) (a : A) → i < length l → at d l i ≡ a → get_elem? l i ≡ some a
unfolding at
get-at d [] i a lt e = absurd (omega arith)
get-at d (x ∷ xs) zero a lt e = ap some e
get-at d (x ∷ xs) (suc i) a lt e = get-at d xs i a (omega arith) e

module _ {B : Type 0} where
  pub home-is : (x : maybe.Option (Option B)) → IsSome (at_home x) → (b : B) × (x ≡ some (Some b))
  home-is maybe.none h = absurd cc
  home-is (maybe.some None) h = absurd cc
  home-is (maybe.some (Some b)) h = (b, refl)

  -- the slot p now
  pub slot-here : (homes : List (maybe.Option (Option B))) (p : ℕ) (x : maybe.Option (Option B)) → p < length homes
      → at maybe.none (slice_set homes p x) p ≡ x
  slot-here homes p x l = ap (λ f. f p) (at_set maybe.none homes p x l) ∙ upd-same (at maybe.none homes) p x

  pub slot-else : (homes : List (maybe.Option (Option B))) (p q : ℕ) (x : maybe.Option (Option B)) → p < length homes
      → q ≢ p → at maybe.none (slice_set homes p x) q ≡ at maybe.none homes q
  slot-else homes p q x l ne = ap (λ f. f q) (at_set maybe.none homes p x l) ∙ upd-other (at maybe.none homes) p x q ne

-- a block of another page
pub out-of_page : (o : Out) (p : ℕ) (d : Option Stored) → p ≢ o.page → out_or (Some o) p d ≡ d
out-of_page o p d ne = rw (ne_eqb o.page p (λ e. ne (sym e))) refl

pub out-at_page : (o : Out) (d : Option Stored) → out_or (Some o) o.page d ≡ Some o.block
out-at_page o d = rw (eq-eqb o.page o.page refl) refl

-- nothing is out, so not this
none-before : (x : Option Out) (p : ℕ) (d : Option Stored) → out_or x p d ≡ None → (d ≡ None) × ((d' : Option Stored) → out_or x p d' ≡ d')
none-before x p d e = grind (arith, nat_tests)

passes-by : (x : Option Out) (p : ℕ) (d : Option Stored) → ((o : Out) → x ≡ Some o → o.page ≢ p) → out_or x p d ≡ d
passes-by x p d k = grind (arith, nat_tests)

module _ {X : Type 0} where
  -- what is out of another page stays
  pub out-else : (views : List (View X)) (id : ℕ) (v w : View X) (p : ℕ) → get_elem? views id ≡ some v
      → ((d : Option Stored) → out_or w.out p d ≡ out_or v.out p d) → out_of (slice_set views id w) p ≡ out_of views p
  out-else [] id v w p e same = refl
  out-else (x ∷ xs) zero v w p e same = same (out_of xs p) ∙ ap (λ (y : View X). out_or y.out p (out_of xs p)) (sym (some-injective x v e))
  out-else (x ∷ xs) (suc id) v w p e same = ap (out_or x.out p) (out-else xs id v w p e same)

  -- the block that a pass has taken out, where nobody had it out
  pub out-new : (views : List (View X)) (id : ℕ) (v w : View X) (o : Out) → get_elem? views id ≡ some v
      → w.out ≡ Some o → out_of views o.page ≡ None → out_of (slice_set views id w) o.page ≡ Some o.block
  out-new [] id v w o e new none = absurd (maybe.some-ne-none v (sym e))
  out-new (x ∷ xs) zero v w o e new none = ap (λ y. out_or y o.page (out_of xs o.page)) new ∙ out-at_page o (out_of xs o.page)
  out-new (x ∷ xs) (suc id) v w o e new none =
      let k = none-before x.out o.page (out_of xs o.page) none in k.1 (out_of (slice_set xs id w) o.page) ∙ out-new xs id v w o e new k.0

  -- no view has it out
  pub out-none : (views : List (View X)) (p : ℕ)
      → ((j : ℕ) (u : View X) (o : Out) → get_elem? views j ≡ some u → u.out ≡ Some o → o.page ≢ p)
      → out_of views p ≡ None
  out-none [] p k = refl
  out-none (x ∷ xs) p k = passes-by x.out p (out_of xs p) (λ o e. k 0 x o refl e) ∙ out-none xs p (λ j u o e. k (suc j) u o e)

  -- the block that the one pass has out
  pub out-is : (views : List (View X)) (id : ℕ) (v : View X) (o : Out) → get_elem? views id ≡ some v → v.out ≡ Some o
      → ((j : ℕ) (u : View X) (o' : Out) → j ≢ id → get_elem? views j ≡ some u → u.out ≡ Some o' → o'.page ≢ o.page)
      → out_of views o.page ≡ Some o.block
  out-is [] id v o e x k = absurd (maybe.some-ne-none v (sym e))
  out-is (y ∷ ys) zero v o e x k = ap (λ (z : View X). out_or z.out o.page (out_of ys o.page)) (some-injective y v e)
      ∙ ap (λ z. out_or z o.page (out_of ys o.page)) x ∙ out-at_page o (out_of ys o.page)
  out-is (y ∷ ys) (suc id) v o e x k =
      passes-by y.out o.page (out_of ys o.page) (λ o' e'. k 0 y o' (λ z. absurd (omega arith)) refl e')
      ∙ out-is ys id v o e x (λ j u o' ne at e'. k (suc j) u o' (λ z. ne (omega arith)) at e')

module _ {X B : Type 0} (stored : B → Stored) (keeps : Start → Kept X → Type 0)
    (tied : Start → ℕ → List ℕ → ℕ → List ℕ → Type 0) (start : Origin) (tells : Bool) (s : Table (Option B) (View X))
    (r : Ruled stored keeps tied start tells s) (id : ℕ) (v : View X) (words : List ℕ)
    (homes : List (maybe.Option (Option B))) (blocks : List Stored) (did : Did) (out : Option Out)
    (held : List (Put Held)) (notes : List Note) (core : State) where
  abbrev inner : View X
  inner = record v { out = out; held = held; notes = notes }

  abbrev after : View X
  after = after_more stored keeps tied start tells s r id v words homes blocks r.drafts [] [] did inner

  abbrev new : Table (Option B) (View X)
  new = became_more stored keeps tied start tells s r id v words homes blocks r.drafts [] [] did inner

  abbrev old : World
  old = world_of stored start r.releases r.drafts s

  abbrev later : World
  later = record old { core = core }

  -- what is to be shown of it; `core` is the core that the table shows then
  pub record ShowsDevice : Type 0 where
    pub word : IsWordOf start s.words words did
    pub slots : length homes ≡ start.pages
    pub core_is : core_shown stored start new ≡ core
    pub inv : Inv later
    pub left : Leaves id old later
    pub next : core.next ≡ old.core.next
    pub spares : core.spares ≡ old.core.spares
    pub contents : core.words ≡ old.core.words
    pub owners : KnowsOwners core.owners (seat_of v) (put_at no_held held)
    pub told : listed start.pages (block_of stored homes (slice_set s.views id after)) ≡ blocks
    pub fit : BlocksFit stored start homes (slice_set s.views id after)
    pub faults : FaultsFit core.pages (slice_set s.views id after)
    pub knows : (q : ℕ) → KnowsPage (seat_of v q) (put_at no_held held q) (core.pages q)

  pub device-shows : get_elem? s.views id ≡ some v → v.live ≡ true → ShowsDevice
      → ShowsMore stored keeps tied start tells s r id v words homes blocks r.drafts [] [] did inner
  device-shows there live sh =
      let k : KnowsPages tied start old (is_pending s.views) v = r.known id v there live in
      let led : HasLed stored keeps tied start tells s r id v words homes blocks r.drafts [] did inner later =
      has-led stored keeps tied start tells s r id v words homes blocks r.drafts [] did inner later there live
      (record {
        world = λ i. record {
          core = sh.core_is i;
          histories = histories_of start r.releases r.drafts;
          loads = loads-still s.views id v after there refl i;
        };
        pending = refl;
        members = λ q _. refl;
        up = let same = sh.next in omega (arith, same);
        spares = sh.spares;
        numbers = refl;
        freed = refl;
        owes = inl refl;
      }) in
      let owed-stays : is_owed (slice_set s.views id after) ≡ is_owed s.views =
      fun_ext (λ q. any-same (λ (y : View X). has q y.owed) s.views id v after there refl) in
      let known = subst (λ (c : State). ((q : ℕ) → KnowsPage (seat_of v q) (put_at no_held held q) (c.pages q))
      × KnowsOwners c.owners (seat_of v) (put_at no_held held)
      × ((f : ℕ) → has f v.frames ≡ true → put_at [] v.contents f ≡ c.words f) × FaultsFit c.pages (slice_set s.views id after)
      × ((q : ℕ) → has q v.owed ≡ true → ((seat_of v q).exclusive ≡ true) × (start.next ≤ q) × (q < c.next) × (has q v.pending ≡ false))
      × ((x : ℕ) → v.next ≡ Some x → ((seat_of v x).exclusive ≡ true) × (c.next ≡ x))) (sym sh.core_is) (
        sh.knows,
        sh.owners,
        λ f x. k.contents f x ∙ sym (ap (λ (y : ℕ → List ℕ). y f) sh.contents),
        sh.faults,
        λ q x. let m = k.owed q x in (m.0, m.1, subst (λ n. q < n) (sym sh.next) m.2, m.3),
        λ x e. let m = k.next x e in (m.0, sh.next ∙ m.1),
      ) in
      let spares : (p : ℕ) → has_free_bit (core_shown stored start new).spares p ≡ true → p < start.pages =
      λ p set. r.spares p (ap (λ (f : ℕ → ℕ). has_free_bit f p)
      (sym (ap (λ (c : State). c.spares) sh.core_is ∙ sh.spares)) ∙ set) in
      let outside = λ (q : ℕ) (past : start.pages ≤ q). ap (λ (w : World). w.histories q) led.world in
      let drafted = λ (q : ℕ) (x : (seat_of v q).exclusive ≡ true). k.drafts q x ∙ draft-is start r.releases r.drafts q in
      let loaded : (l : List Translation) × (v.translations ≡ l ++ v.translations)
      × Each (TranslationHolds (core_shown stored start new).pages) l = ([], refl, tt) in
      let tying : (l : List Tie) × (v.ties ≡ l ++ v.ties)
      × (start.tells ≡ true → Each
      (TieHolds tied (began_of start) (world_of stored start (r.releases ++ []) r.drafts new)
      (is_pending (slice_set s.views id after))) l) = ([], refl, λ _. tt) in
      let members : (q : ℕ) → has q v.pending ≡ true → has q v.pending ≡ false
      → ((core_shown stored start new).pages q).version ≢ (old.core.pages q).version = λ q was gone.
      absurd (true≢false (sym was ∙ gone)) in
      let owner = λ (t : start.tells ≡ true) (kept : keeps (began_of start) (kept_of old r.history s.views)).
      subst (keeps (began_of start)) (sym led.kept)
      (subst (keeps (began_of start)) (λ i. record (kept_of old r.history s.views) {
        next = sym sh.next i;
        owed = chosen start.pages (sym owed-stays i);
        history = sym (append-none r.history) i;
      }) kept) in
      search (
        rules,
        inl,
        sh.word,
        led.fits,
        spares,
        subst Inv (sym led.world) sh.inv,
        subst (Leaves id old)
            (sym led.world) sh.left,
        outside,
        sym (append-none v.mine),
        known,
        drafted,
        loaded,
        tying,
        members,
        owner,
      )

-- an empty slot, or one that is with a pass, has no block at home
pub slot-empty : {B : Type 0} (stored : B → Stored) (o : Out) (d : Option Stored)
    → known stored (at_home (slot_of o)) d ≡ known stored None d
slot-empty stored o d = ⊎_elim (λ t. rw t refl) (λ e. rw e refl) (cases_Bool o.moving)

module _ {X B : Type 0} (stored : B → Stored) (start : Origin) where
  -- the core, where only the slots and the pass's own view changed
  pub core-slots : (s : Table (Option B) (View X)) (homes : List (maybe.Option (Option B))) (id : ℕ) (v w : View X)
      (blocks : ℕ → Stored) → get_elem? s.views id ≡ some v → w.seats ≡ v.seats → holdings w ≡ holdings v
      → block_of stored homes (slice_set s.views id w) ≡ blocks
      → core_shown stored start (record {
        words = s.words;
        homes = homes;
        views = slice_set s.views id w;
      }) ≡ core_from start (length s.views) (table_words start s.words) blocks (seats_of s.views)
      (frames_held s.views) (numbers_held s.views)
  core-slots s homes id v w blocks there seats frames e i =
      core_from start (length-set s.views id w i) (table_words start s.words) (e i)
      (seats-still s.views id v w there seats i)
      (held-still s.views id v w there (ap (λ (y : List ℕ × List ℕ). y.0) frames) i)
      (numbers-still s.views id v w there (ap (λ (y : List ℕ × List ℕ). y.1) frames) i)

module _ {X B : Type 0} (stored : B → Stored) (keeps : Start → Kept X → Type 0)
    (tied : Start → ℕ → List ℕ → ℕ → List ℕ → Type 0) (start : Origin) (tells : Bool) (s : Table (Option B) (View X))
    (r : Ruled stored keeps tied start tells s) (id : ℕ) (v : View X) (there : get_elem? s.views id ≡ some v)
    (live : v.live ≡ true) where
  abbrev fault-load : ℕ → Did
  fault-load p = did_load (places.Fault p) (slice_index s.words (index_of start (places.Fault p)))

  abbrev pub blocks-now : List Stored
  blocks-now = listed start.pages (block_of stored s.homes s.views)

  -- the table and the view, where the slots are these now, and this block is out
  abbrev pub slot-table : (homes : List (maybe.Option (Option B))) (p : ℕ) (moving : Bool) (b : Stored) → Table (Option B) (View X)
  slot-table homes p moving b = became_more stored keeps tied start tells s r id v s.words homes blocks-now r.drafts
      [] [] (fault-load p) (out_view p moving b v)

  abbrev pub slot-view : (homes : List (maybe.Option (Option B))) (p : ℕ) (moving : Bool) (b : Stored) → View X
  slot-view homes p moving b = after_more stored keeps tied start tells s r id v s.words homes blocks-now r.drafts []
      [] (fault-load p) (out_view p moving b v)

  -- a pass that moves no word and no block leaves all
  rests-left : Leaves id (world_of stored start r.releases r.drafts s) (world_of stored start r.releases r.drafts s)
  rests-left = leave_others (world_of stored start r.releases r.drafts s) (NLoad id) r.inv (at-bound s.views id v there)

  -- the slot is this pass's, at home or with it; the block that is read stays, so the core is as it was
  slot-moves : 0 < length v.used → (p : ℕ) (moving : Bool) (b : Stored) → p < start.pages → may_call (seat_of v p) ≡ true
      → ((j : ℕ) (u : View X) (o : Out) → j ≢ id → get_elem? s.views j ≡ some u → u.out ≡ Some o → o.page ≢ p)
      → ((q : ℕ) → q ≢ p → out_of
      (slice_set s.views id (slot-view (slice_set s.homes p (slot_of (out_at p moving b))) p moving b)) q ≡ out_of
      s.views q)
      → out_of (slice_set s.views id (slot-view (slice_set s.homes p (slot_of (out_at p moving b))) p moving b)) p ≡ Some b
      → block_of stored (slice_set s.homes p (slot_of (out_at p moving b)))
      (slice_set s.views id (slot-view (slice_set s.homes p (slot_of (out_at p moving b))) p moving b)) ≡ block_of
      stored s.homes s.views
      → Ruled stored keeps tied start tells
      (slot-table (slice_set s.homes p (slot_of (out_at p moving b))) p moving b) × Brings (fault-load p) [] [] v
      (out_view p moving b v) (slot-view (slice_set s.homes p (slot_of (out_at p moving b))) p moving b)
  slot-moves number p moving b l calls others elsewhere now same =
      let k : KnowsPages tied start (world_of stored start r.releases r.drafts s) (is_pending s.views) v = r.known id v there live in
      let o : Out = out_at p moving b in
      let homes : List (maybe.Option (Option B)) = slice_set s.homes p (slot_of o) in
      let w : View X = slot-view homes p moving b in
      let inside : p < length s.homes = subst (λ n. p < n) (sym r.wide.1) l in
      let fit : BlocksFit stored start homes (slice_set s.views id w) = record {
        away = λ j u o' e x. ⊎_elim
            (λ (t : (j ≡ id) × (w ≡ u)). let is : o ≡ o' = some-same o o' (ap (λ (y : View X). y.out) t.1 ∙ x) in
            subst (λ (y : Out). (y.page < start.pages) × (may_call (seat_of u y.page) ≡ true) × (at maybe.none homes y.page ≡ slot_of y)) is
            (l, subst (λ (y : View X). may_call (seat_of y p) ≡ true) t.1 calls, slot-here s.homes p (slot_of o) inside))
            (λ (t : (j ≢ id) × (get_elem? s.views j ≡ some u)). let a = r.blocks.away j u o' t.1 x in
            (a.0, a.1, slot-else s.homes p o'.page (slot_of o) inside (others j u o' t.0 t.1 x) ∙ a.2))
            (list-set s.views id j w u e);
        home = λ q lq e. ⊎_elim
            (λ here. absurd (none-some b (sym e ∙ ap (out_of (slice_set s.views id w)) here ∙ now)))
            (λ ne. subst (λ x. IsSome (at_home x)) (sym (slot-else s.homes p q (slot_of o) inside ne))
            (r.blocks.home q lq (sym (elsewhere q ne) ∙ e)))
            (cases_eq q p);
        bounds = λ q lq. ap (λ (y : ℕ → Stored). (y q).bound) same ∙ r.blocks.bounds q lq;
      } in
      steps_more stored keeps tied start tells s r id v s.words homes blocks-now None r.drafts [] [] (fault-load p)
      (out_view p moving b v) there live number refl refl
      (device-shows stored keeps tied start tells s r id v s.words homes blocks-now (fault-load p) (Some o) v.held
      v.notes (core_shown stored start s) there live
      (search (
        rules,
        word-loaded start s.words (places.Fault p) r.wide.0 r.spelled l,
        length-set s.homes p (slot_of o) ∙ r.wide.1,
        core-slots stored start s homes id v w (block_of stored s.homes s.views) there refl refl same,
        r.inv,
        rests-left,
        k.owners,
        ap (listed start.pages) same,
        fit,
        faults-still stored keeps tied start tells s r id v w (world_of stored start r.releases r.drafts s) there refl rests-left,
        k.knows,
      )))

  -- a pass that may call the page's device and does not hold it exclusively has a share of it
  pub has-share : (p : ℕ) → p < start.pages → may_call (seat_of v p) ≡ true → (seat_of v p).exclusive ≡ false → 1 ≤ (seat_of v p).shares
  has-share p l calls free =
      let here : ((core_shown stored start s).pages p).seats id ≡ seat_of v p = seat-here stored start s id p v l there in
      let writes : (seat_of v p).writing ≡ true = sym (ap (λ b. b || (seat_of v p).writing) free) ∙ calls in
      subst (λ (g : Seat). 1 ≤ g.shares) here ((r.inv.pages p).locks.writer id (ap (λ (g : Seat). g.writing) here ∙ writes)).0

  -- what was done to its block is so of the view after a move of a slot
  pub did-stays : (homes : List (maybe.Option (Option B))) (p : ℕ) (moving : Bool) (b old new : Stored)
      → p < start.pages → may_call (seat_of v p) ≡ true → DeviceDid v p old new
      → DeviceDid (slot-view homes p moving b) p old new
  did-stays homes p moving b old new l calls (idle same) = idle same
  did-stays homes p moving b old new l calls (read owns w c reads writes) = read owns w c reads writes
  did-stays homes p moving b old new l calls (failed w c reads writes) = failed w c reads writes
  did-stays homes p moving b old new l calls (wrote m w c reads writes) =
      let same : words_held v p ≡ words_held (slot-view homes p moving b) p = ⊎_elim
      (λ owns. rw owns refl)
      (λ free. rw free (ap (λ (y : Version). y.words)
      ((r.known id v there live).latest p (inr (has-share p l calls free))
      ∙ sym (last-told stored keeps tied start tells s r id v there live p))))
      (cases_Bool (seat_of v p).exclusive) in
      wrote m (λ t. w t ∙ same) c reads writes

  -- ---- the slot is taken with the block in it

  -- the other passes have other blocks out
  pub others-out : (p : ℕ) → p < start.pages → may_call (seat_of v p) ≡ true → (j : ℕ) (u : View X) (o : Out) → j ≢ id
      → get_elem? s.views j ≡ some u → u.out ≡ Some o → o.page ≢ p
  others-out p l calls j u o ne at x e =
      let a = r.blocks.away j u o at x in
      ne (caller-here stored start s id j p v u (r.inv.pages p).locks l there calls
      at (subst (λ q. may_call (seat_of u q) ≡ true) e a.1))

  -- nobody has the block of the page out, where the pass has none
  nobody-out : (p : ℕ) → p < start.pages → may_call (seat_of v p) ≡ true → v.out ≡ None
      → (j : ℕ) (u : View X) (o : Out) → get_elem? s.views j ≡ some u → u.out ≡ Some o → o.page ≢ p
  nobody-out p l calls none j u o at x =
      others-out p l calls j u o
      (λ same. none-some o (sym none
      ∙ sym (ap (λ (y : View X). y.out) (some-injective u v (sym at ∙ ap (get_elem? s.views) same ∙ there))) ∙ x))
      at x

  -- so it is at home
  pub at-home : (p : ℕ) → p < start.pages → may_call (seat_of v p) ≡ true → v.out ≡ None
      → (b : B) × (at maybe.none s.homes p ≡ some (Some b))
  at-home p l calls none = home-is (at maybe.none s.homes p) (r.blocks.home p l (out-none s.views p (nobody-out p l calls none)))

  pub block-home-is : (p : ℕ) (b : B) → at maybe.none s.homes p ≡ some (Some b) → block_of stored s.homes s.views p ≡ stored b
  unfolding block_of
  block-home-is p b e = ap (λ x. known stored (at_home x) (out_of s.views p)) e

  -- it is the block that the pass knows
  pub is-block : (p : ℕ) (b : B) → p < start.pages → may_call (seat_of v p) ≡ true
      → at maybe.none s.homes p ≡ some (Some b) → IsBlockOf v p (stored b)
  is-block p b l calls e =
      let knows = ((r.known id v there live).knows p).calls calls in
      let same : block_of stored s.homes s.views p ≡ stored b = block-home-is p b e in
      let here = block-here stored start s p l in
      record {
        words = sym (knows.2 ∙ here.0 ∙ ap (λ (y : Stored). y.words) same);
        count = sym (knows.3 ∙ here.1 ∙ ap (λ (y : Stored). y.count) same);
        bound = ap (λ (y : Stored). y.bound) (sym same) ∙ r.blocks.bounds p l ∙ ap (λ (o : Origin). at 0 o.bounds p)
            (sym (r.heard id v there live).same_start);
      }

  -- only the block of page p is another, where its slot and what is out of it changed
  moved-blocks : (p : ℕ) (x : maybe.Option (Option B)) (w : View X) → p < start.pages
      → ((q : ℕ) → q ≢ p → out_of (slice_set s.views id w) q ≡ out_of s.views q)
      → block_of stored (slice_set s.homes p x) (slice_set s.views id w) ≡ upd (block_of stored s.homes s.views) p
      (known stored (at_home x) (out_of (slice_set s.views id w) p))
  unfolding block_of
  moved-blocks p x w l outs =
      let inside : p < length s.homes = subst (λ k. p < k) (sym r.wide.1) l in
      let views : List (View X) = slice_set s.views id w in
      upd-is (block_of stored s.homes s.views) (block_of stored (slice_set s.homes p x) views) p _
      (ap (λ y. known stored (at_home y) (out_of views p)) (slot-here s.homes p x inside))
      (λ q ne. ap (λ y. known stored (at_home y) (out_of views q)) (slot-else s.homes p q x inside ne)
      ∙ ap (known stored (home s.homes q)) (outs q ne))

  -- the block that is read stays, where the slot is taken and the block is out with the pass
  pub taken-blocks : (p : ℕ) (b : B) (w : View X) → p < start.pages → may_call (seat_of v p) ≡ true → v.out ≡ None
      → at maybe.none s.homes p ≡ some (Some b) → w.out ≡ Some (out_at p true (stored b))
      → block_of stored (slice_set s.homes p maybe.none) (slice_set s.views id w) ≡ block_of stored s.homes s.views
  taken-blocks p b w l calls none at-p out =
      let o : Out = out_at p true (stored b) in
      let same : known stored None (out_of (slice_set s.views id w) p) ≡ block_of stored s.homes s.views p =
      ap (known stored None) (out-new s.views id v w o there out (out-none s.views p (nobody-out p l calls none)))
      ∙ sym (block-home-is p b at-p) in
      moved-blocks p maybe.none w l
      (λ q ne. out-else s.views id v w q there
      (λ d. ap (λ y. out_or y q d) out ∙ out-of_page o q d ne ∙ ap (λ y. out_or y q d) (sym none)))
      ∙ ap (upd (block_of stored s.homes s.views) p) same
      ∙ upd-self (block_of stored s.homes s.views) p

  pub takes-slot : 0 < length v.used → (p : ℕ) (b : B) → p < start.pages → may_call (seat_of v p) ≡ true
      → v.out ≡ None → at maybe.none s.homes p ≡ some (Some b)
      → Ruled stored keeps tied start tells (slot-table (slice_set s.homes p maybe.none) p true (stored b))
      × SlotTold p (stored b) (slice_index s.words (index_of start (places.Fault p))) v
      (slot-view (slice_set s.homes p maybe.none) p true (stored b))
  takes-slot number p b l calls none at-p =
      let nobody = nobody-out p l calls none in
      let o : Out = out_at p true (stored b) in
      let w : View X = slot-view (slice_set s.homes p maybe.none) p true (stored b) in
      let k = slot-moves number p true (stored b) l calls (λ j u o' _. nobody j u o')
      (λ q ne. out-else s.views id v w q there (λ d. out-of_page o q d ne ∙ ap (λ y. out_or y q d) (sym none)))
      (out-new s.views id v w o there refl (out-none s.views p nobody))
      (taken-blocks p b w l calls none at-p refl) in
      (k.0, record { brings = k.1; block = is-block p b l calls at-p })

  -- ---- the empty slot of a block that is out

  -- the block that is read stays, where the slot goes home or is taken
  pub shifted-blocks : (o : Out) (moving : Bool) (w : View X) → v.out ≡ Some o → w.out ≡ Some (out_at o.page moving o.block)
      → block_of stored (slice_set s.homes o.page (slot_of (out_at o.page moving o.block))) (slice_set s.views id w)
      ≡ block_of stored s.homes s.views
  unfolding block_of
  shifted-blocks o moving w out now =
      let p : ℕ = o.page in
      let o' : Out = out_at p moving o.block in
      let k = r.blocks.away id v o there out in
      let outs : (q : ℕ) → out_of (slice_set s.views id w) q ≡ out_of s.views q =
      λ q. out-else s.views id v w q there (λ d. ap (λ y. out_or y q d) now ∙ ap (λ y. out_or y q d) (sym out)) in
      let was : block_of stored s.homes s.views p ≡ known stored None (out_of s.views p) =
      ap (λ x. known stored (at_home x) (out_of s.views p)) k.2 ∙ slot-empty stored o (out_of s.views p) in
      moved-blocks p (slot_of o') w k.0 (λ q _. outs q)
      ∙ ap (upd (block_of stored s.homes s.views) p)
      (slot-empty stored o' (out_of (slice_set s.views id w) p) ∙ ap (known stored None) (outs p) ∙ sym was)
      ∙ upd-self (block_of stored s.homes s.views) p

  -- it goes home, or is taken
  pub shifts-slot : 0 < length v.used → (o : Out) (moving : Bool) → v.out ≡ Some o
      → Ruled stored keeps tied start tells
      (slot-table (slice_set s.homes o.page (slot_of (out_at o.page moving o.block))) o.page moving o.block)
      × ShiftTold o.page moving o.block (slice_index s.words (index_of start (places.Fault o.page))) v
      (slot-view (slice_set s.homes o.page (slot_of (out_at o.page moving o.block))) o.page moving o.block)
  shifts-slot number o moving out =
      let p : ℕ = o.page in
      let w : View X = slot-view (slice_set s.homes p (slot_of (out_at p moving o.block))) p moving o.block in
      let k = r.blocks.away id v o there out in
      let others = others-out p k.0 k.1 in
      let outs : (q : ℕ) → out_of (slice_set s.views id w) q ≡ out_of s.views q =
      λ q. out-else s.views id v w q there (λ d. ap (λ y. out_or y q d) (sym out)) in
      let done = slot-moves number p moving o.block k.0 k.1 others (λ q _. outs q)
      (outs p ∙ out-is s.views id v o there out others) (shifted-blocks o moving w out refl) in
      (done.0, record { brings = done.1 })

  abbrev world : World
  world = world_of stored start r.releases r.drafts s

  abbrev page : ℕ → Page
  page p = world.core.pages p

  mine : KnowsPages tied start world (is_pending s.views) v
  mine = r.known id v there live

  pub may-call : (p : ℕ) → p < start.pages → may_call (seat_of v p) ≡ true → MayCall (page p) id
  may-call p l calls = or_cases ((page p).seats id).exclusive ((page p).seats id).writing
      (ap may_call (seat-here stored start s id p v l there) ∙ calls)

  -- a page that has a frame and may be called has in its frame the words that the pass knows
  pub frame-held : (p : ℕ) (m : Mapping) → p < start.pages → may_call (seat_of v p) ≡ true → start.tells ≡ true
      → (page p).trans ≡ Some m → words_held v p ≡ world.core.words m.frame
  frame-held p m l calls t e =
      let words = (r.inv.pages p).contents t in
      ⊎_elim
      (λ owns. rw owns (mine.drafts p owns ∙ sym (words.draft (locked-here stored start s id p v (r.inv.pages p).locks l there owns) m e)))
      (λ free.
      let shares : 1 ≤ (seat_of v p).shares = has-share p l calls free in
      let below : (page p).state < LOCKED = (shared-here stored start s id p v (r.inv.pages p).locks l there shares).1 in
      rw free (ap (λ (y : Version). y.words) (mine.latest p (inr shares))
      ∙ sym (words.logical (λ locked. absurd (omega (arith, below, locked))) m e)))
      (cases_Bool (seat_of v p).exclusive)

  -- so a write leaves those words in the block
  pub written-held : (p : ℕ) → p < start.pages → may_call (seat_of v p) ≡ true → start.tells ≡ true
      → IsSome (page p).trans → words_held v p ≡ block_after world.core.words (page p).trans (page p).block
  written-held p l calls t resident =
      let n : (y : Mapping) × ((page p).trans ≡ Some y) = some-is (page p).trans resident in
      frame-held p n.0 l calls t n.1 ∙ sym (ap (λ x. block_after world.core.words x (page p).block) n.1)

  -- the block that the pass has out is the page's
  pub block-out-is : (o : Out) → v.out ≡ Some o → block_of stored s.homes s.views o.page ≡ o.block
  unfolding block_of
  block-out-is o out =
      let k = r.blocks.away id v o there out in
      ap (λ x. known stored (at_home x) (out_of s.views o.page)) k.2 ∙ slot-empty stored o (out_of s.views o.page)
      ∙ ap (known stored None) (out-is s.views id v o there out (others-out o.page k.0 k.1))

  -- what was done to the block is what may be done to the core's page
  pub is-called : (o : Out) (b : Stored) → v.out ≡ Some o → DeviceDid v o.page o.block b
      → IsCalled start.tells world.core.words (page o.page) b.count b.words
  is-called o b out did =
      let p : ℕ = o.page in
      let k = r.blocks.away id v o there out in
      let here = block-here stored start s p k.0 in
      let is : block_of stored s.homes s.views p ≡ o.block = block-out-is o out in
      let words : (page p).block ≡ o.block.words = here.0 ∙ ap (λ (y : Stored). y.words) is in
      let count : (page p).count ≡ o.block.count = here.1 ∙ ap (λ (y : Stored). y.count) is in
      let knows = (mine.knows p).calls k.1 in
      let t' : start.tells ≡ true → v.start.tells ≡ true = λ t. ap (λ (y : Origin). y.tells) (r.heard id v there live).same_start ∙ t in
      cases did words count knows t' k.0 k.1
    where
      cases : {p : ℕ} → {old : Stored} → DeviceDid v p old b → (page p).block ≡ old.words → (page p).count ≡ old.count
          → ((held_at v p).mapping ≡ (page p).trans) × ((held_at v p).fault ≡ (page p).fault)
          × ((held_at v p).block.words ≡ (page p).block) × ((held_at v p).block.count ≡ (page p).count)
          → (start.tells ≡ true → v.start.tells ≡ true) → p < start.pages → may_call (seat_of v p) ≡ true
          → IsCalled start.tells world.core.words (page p) b.count b.words
      cases (idle same) words count knows t' l calls = record {
        contents = λ t. inl (ap (λ (y : Stored). y.words) same ∙ sym words);
        counts = inl (ap (λ (y : Stored). y.count) same ∙ sym count);
      }
      cases (read _ w c _ _) words count knows t' l calls =
          record { contents = λ t. inl (w (t' t) ∙ sym words); counts = inl (c ∙ sym count) }
      cases {p} (wrote m w c _ _) words count knows t' l calls =
          let resident : IsSome (page p).trans = subst IsSome knows.0 m in
          record { contents = λ t. inr (resident, w (t' t) ∙ written-held p l calls t resident); counts = inl (c ∙ sym count) }
      cases {p} {old} (failed w c _ _) words count knows t' l calls =
          record { contents = λ t. inl (w (t' t) ∙ sym words); counts = inr (c ∙ ap count_more (sym count)) }

  -- ---- the block comes home

  abbrev pub home-blocks : ℕ → B → List Stored
  home-blocks p b = slice_set (listed start.pages (block_of stored s.homes s.views)) p (stored b)

  abbrev pub home-slots : ℕ → B → List (maybe.Option (Option B))
  home-slots p b = slice_set s.homes p (maybe.some (Some b))

  abbrev pub home-after : ℕ → B → View X
  home-after p b = after_more stored keeps tied start tells s r id v s.words (home-slots p b) (home-blocks p b)
      r.drafts [] [] (fault-load p) (home_view p (stored b) v)

  module _ (o : Out) (b : B) (out : v.out ≡ Some o) where
    abbrev p : ℕ
    p = o.page

    elsewhere : (w : View X) → w.out ≡ None → (q : ℕ) → q ≢ p → out_of (slice_set s.views id w) q ≡ out_of s.views q
    elsewhere w none q ne =
        out-else s.views id v w q there (λ d. ap (λ y. out_or y q d) none ∙ sym (out-of_page o q d ne)
        ∙ ap (λ y. out_or y q d) (sym out))

    inside : p < length s.homes
    inside = subst (λ m. p < m) (sym r.wide.1) (r.blocks.away id v o there out).0

    -- the page's block is this one now, and every other page's is as it was
    pub blocks-home : (w : View X) → w.out ≡ None → block_of stored (home-slots p b) (slice_set s.views id w) ≡ upd
        (block_of stored s.homes s.views) p (stored b)
    blocks-home w none = moved-blocks p (maybe.some (Some b)) w (r.blocks.away id v o there out).0 (elsewhere w none)

    fit-home : (stored b).bound ≡ o.block.bound → BlocksFit stored start (home-slots p b) (slice_set s.views id (home-after p b))
    fit-home bound =
        let k = r.blocks.away id v o there out in
        record {
          away = λ j u o' e x. ⊎_elim
              (λ (t : (j ≡ id) × (home-after p b ≡ u)). absurd (none-some o' (ap (λ (y : View X). y.out) t.1 ∙ x)))
              (λ (t : (j ≢ id) × (get_elem? s.views j ≡ some u)).
              let a = r.blocks.away j u o' t.1 x in
              (a.0, a.1, slot-else s.homes p o'.page (maybe.some (Some b)) inside (others-out p k.0 k.1 j u o' t.0 t.1 x) ∙ a.2))
              (list-set s.views id j (home-after p b) u e);
          home = λ q lq e. ⊎_elim
              (λ here. subst (λ x. IsSome (at_home x))
              (sym (ap (at maybe.none (home-slots p b)) here ∙ slot-here s.homes p (maybe.some (Some b)) inside))
              refl)
              (λ ne. subst (λ x. IsSome (at_home x)) (sym (slot-else s.homes p q (maybe.some (Some b)) inside ne))
              (r.blocks.home q lq (sym (elsewhere (home-after p b) refl q ne) ∙ e)))
              (cases_eq q p);
          bounds = λ q lq. ap (λ (y : ℕ → Stored). (y q).bound) (blocks-home (home-after p b) refl)
              ∙ each-upd (λ n (y : Stored). n < start.pages → y.bound ≡ at 0 start.bounds n)
              (block_of stored s.homes s.views) p (stored b)
              (λ l. bound ∙ ap (λ (y : Stored). y.bound) (sym (block-out-is o out)) ∙ r.blocks.bounds p l) (λ n _. r.blocks.bounds n) q lq;
        }

    -- the core that is read then
    pub core-home : (w : View X) → w.out ≡ None → w.seats ≡ v.seats → holdings w ≡ holdings v
        → core_shown stored start (record {
          words = s.words;
          homes = home-slots p b;
          views = slice_set s.views id w;
        }) ≡ on_page world.core p (called (page p) (stored b).count (stored b).words)
    core-home w none seats frames =
        core-slots stored start s (home-slots p b) id v w (upd (block_of stored s.homes s.views) p (stored b)) there
        seats frames (blocks-home w none)
        ∙ core-block start (length s.views) (table_words start s.words) (block_of stored s.homes s.views)
        (seats_of s.views) (frames_held s.views) (numbers_held s.views) p (stored b)
        (r.blocks.away id v o there out).0

    pub returns-home : 0 < length v.used → DeviceDid v p o.block (stored b) → (stored b).bound ≡ o.block.bound
        → Ruled stored keeps tied start tells
        (became_more stored keeps tied start tells s r id v s.words (home-slots p b) (home-blocks p b) r.drafts []
        [] (fault-load p) (home_view p (stored b) v)) × ReturnTold p (stored b)
        (slice_index s.words (index_of start (places.Fault p))) v (home-after p b)
    returns-home number did bound =
        let k = r.blocks.away id v o there out in
        let h : Held = record (held_at v p) { block = stored b } in
        let y : Page = called (page p) (stored b).count (stored b).words in
        let is : IsCalled start.tells world.core.words (page p) (stored b).count (stored b).words = is-called o (stored b) out did in
        let left = called-left world id p (stored b).count (stored b).words r.inv (may-call p k.0 k.1) is in
        let known : (q : ℕ) → KnowsPage (seat_of v q) (put_at no_held (put p h v.held) q)
        (upd world.core.pages p y q) = each-upd2 (λ q (x : Held) (z : Page). KnowsPage (seat_of v q) x z)
        (put_at no_held v.held) world.core.pages p h y
        (let knows = (mine.knows p).calls k.1 in record {
          calls = λ _. (knows.0, knows.1, refl, refl);
          shares = (mine.knows p).shares;
        }) (λ q _. mine.knows q) in
        let owners = each-upd (λ q (x : Held). KnowsOwner world.core.owners (seat_of v q) x) (put_at no_held v.held) p
        h (mine.owners p) (λ q _. mine.owners q) in
        let done = steps_more stored keeps tied start tells s r id v s.words (home-slots p b) (home-blocks p b)
        (Some (p, stored b)) r.drafts [] [] (fault-load p) (home_view p (stored b) v) there live number refl refl
        (device-shows stored keeps tied start tells s r id v s.words (home-slots p b) (home-blocks p b) (fault-load p)
        None (put p h v.held) v.notes (on_page world.core p y) there live
        (search (
          rules,
          word-loaded start s.words (places.Fault p) r.wide.0 r.spelled k.0,
          length-set s.homes p (maybe.some (Some b)) ∙ r.wide.1,
          core-home (home-after p b) refl refl refl,
          called-inv world id p (stored b).count (stored b).words r.inv (may-call p k.0 k.1) is,
          left,
          owners,
          ap (listed start.pages) (blocks-home (home-after p b) refl) ∙ listed-upd start.pages
              (block_of stored s.homes s.views) p (stored b) k.0,
          fit-home bound,
          faults-still stored keeps tied start tells s r id v (home-after p b)
              (record world { core = on_page world.core p y }) there refl left,
          known,
        ))) in
        (done.0, record { brings = done.1 })
