-- A look: what it shows of itself and of the read that it leaves in place, what it tells, what the layer above keeps
-- then and what a pass that is alone
-- knows; that the table allows it, and that it is its event.
--
-- What a look leaves: it speaks of the open read of one page, and says at most one entry. Under a lock of the page
-- nothing changes.
use Rattle.std.proofs.Common.{eq-eqb, map, ne_eqb}
use Rattle.std.proofs.lemmas.Bool.{false≢true}
use Rattle.vm_event.specs.declared.event.ReadIs.TheVariants as read
use Rattle.vm_event.specs.declared.event.PageAct.TheVariants as acts
use Rattle.vm_event.specs.declared.event.Seen.TheVariants as sights
use Rattle.vm_event.proofs.{Alone.act-alone, Alone.acted-alone, Groups.head-below, Upd.upd_over-keeps}
use Rattle.vm_event.specs.Groups.{GroupsFit, head_in, IsUngrouped}
use Rattle.vm_owner.specs.Kept.{PagesHave}
use Rattle.vm_rule.proofs.GroupWords.{group-first, group-has, group-hasn't}
use Rattle.vm_rule.specs.Spread.{group_of}
use Rattle.vm_step.specs.Over.{InTurn}
use Rattle.vm_step.proofs.Over.{has-head, has-tail, over-allows, over-each}
use Rattle.vm_step.specs.steps.Look.{AreReadTogether, MayTellTogether, said_at}
use Rattle.vm_rule.specs.declared.view.WordPlace.TheVariants as places
use Rattle.vm_step.proofs.{Asides.alone-silent, Asides.OnlyReads, Fit.fit, Keeping.kept-now, Keeping.shared-free}
use Rattle.vm_step.proofs.{Quiet.event-shows, Standing.allows, Unclaimed.logical-zero, Written.word-loaded}
use Rattle.vm_step.proofs.Here.{frame-inside, last-told, older, read-valid, reads}
use Rattle.vm_step.proofs.Here.{since, size-told, tied-itself, ties-hold, version-told}
use Rattle.vm_step.proofs.Logical.{not-pending, page-kept, pages-kept, tied-now}
use Rattle.vm_step.proofs.Mine.{no-member}
use Rattle.vm_step.proofs.Prelude.{holdings, [], after_step, AllowsStep, any-here, any-same, ap, append-none, arith}
use Rattle.vm_step.proofs.Prelude.{at-bound, became, began_of, Bool, Brings, calls-by, cases_Bool, cases_eq, chosen}
use Rattle.vm_step.proofs.Prelude.{Closed, cond-false, cond-true, core_shown, Did, did_load, draft-is, Each}
use Rattle.vm_step.proofs.Prelude.{each-both, each-map, each-upd2, entries_of, entries_under, Entry, entry_of, eqb}
use Rattle.vm_step.proofs.Prelude.{eqb-true, EVICTED, false, frame_of, fun_ext, get_elem?, has, has-first}
use Rattle.vm_step.proofs.Prelude.{histories_of, HoldsPage, if◌then◌else◌, index_of, inl, inr, is_owed, is_pending}
use Rattle.vm_step.proofs.Prelude.{is_readable, IsFit, IsKeptNow, IsLocking, IsPlacedAt}
use Rattle.vm_step.proofs.Prelude.{IsTurn, Kept, kept_loads, kept_of}
use Rattle.vm_step.proofs.Prelude.{KnowsAsBefore, KnowsLists, KnowsPage, KnowsPages, KnowsUnheld, last_in, LeavesRest}
use Rattle.vm_step.proofs.Prelude.{left_at, left_of, left_open, length, List, loads_at, LOCKED, LocksNone, logical}
use Rattle.vm_step.proofs.Prelude.{Look, look-step, looked, looked_view, LookIsItsEvent, LookTells, LookTold, Mapping}
use Rattle.vm_step.proofs.Prelude.{mapping_of, MARKED, may_call, MayTell, mine-in, Moved, NamesFrame, nat_tests}
use Rattle.vm_step.proofs.Prelude.{next-here, no_held, no_seat, None, Open, open_after, open_frame, Option, Origin}
use Rattle.vm_step.proofs.Prelude.{Page, page-open, page_at, put_at, ReadIs, refl, Release, Ruled, Same, same-word}
use Rattle.vm_step.proofs.Prelude.{Seat, seat-here, seat_of, set_here, Shows, TableShape, slice_index, slice_set}
use Rattle.vm_step.proofs.Prelude.{Some, some, some-is, Stands, Start, State, state-here, state_of, steps, Stored}
use Rattle.vm_step.proofs.Prelude.{subst, suc, sym, Table, Tie, tie_of}
use Rattle.vm_step.proofs.Prelude.{TieHolds, ties_below, told, told_of, Translation}
use Rattle.vm_step.proofs.Prelude.{TranslationHolds, true, UNLOCKED, upd-keeps, upd-other, upd-same, Version}
use Rattle.vm_step.proofs.Prelude.{version-here, version_of, View, where_same, word-here, World, world_after}
use Rattle.vm_step.proofs.Prelude.{world_of, zero, ℕ, ⊎_elim, ◌++◌, ◌+◌, ◌<◌, ◌∙◌, ◌∷◌, ◌≡◌, ◌≢◌, ◌≤◌, ◌⊎◌}
use Rattle.vm_step.proofs.steps.Event.{is-event}
use Rattle.vm_step.proofs.steps.Leaving.{apart, knows-still, LeavesOthers, LeavesOwn}
use Rattle.vm_step.proofs.steps.Leaving.{only-of, others-tied, own-from, rest-of}

same-version : (n : ℕ) (o : Option Open) → left_open o n ≡ Same → (x : Open) × (o ≡ Some x) × (x.version ≡ n)
same-version n None e = cc
same-version n (Some x) e =
    ⊎_elim (λ t. (x, refl, eqb-true _ _ t))
    (λ f. let moved : left_open (Some x) n ≡ Moved = cond-false (eqb x.version n) Same Moved f in cc)
    (cases_Bool (eqb x.version n))

-- the read that stays, its version, and the state found
pub stays : (found : ℕ) (o : Option Open) → left_at found o ≡ Same → (x : Open) × (o ≡ Some x)
    × (x.version ≡ version_of found) × (is_readable (state_of found) ≡ true)
stays found o e =
    ⊎_elim
    (λ t. let k : (x : Open) × (o ≡ Some x) × (x.version ≡ version_of found) =
    same-version (version_of found) o (sym (cond-true _ _ _ t) ∙ e) in (k.0, k.1, k.2, t))
    (λ f. let closed : Closed ≡ Same = sym (cond-false _ _ _ f) ∙ e in cc)
    (cases_Bool (is_readable (state_of found)))

pub readable : (state : ℕ) → is_readable state ≡ true → (state ≢ LOCKED) × (state ≢ EVICTED)
readable state e = (grind (arith, nat_tests, e), grind (arith, nat_tests, e))

-- so its page is not locked
pub free-here : {X B : Type 0} (stored : B → Stored) (start : Origin) (s : Table (Option B) (View X)) (p : ℕ)
    → p < start.pages → (o : Option Open) → left_at (slice_index s.words p) o ≡ Same
    → ((core_shown stored start s).pages p).state ≢ LOCKED
free-here stored start s p l o same e =
    (readable (state_of (slice_index s.words p)) (stays (slice_index s.words p) o same).3).0
    (sym (state-here stored start s p l) ∙ e)

-- what comes only where the read stays: it is so with nothing, and where the read stays with what comes
where-same-keeps : {A : Type 0} (P : List A → Type 0) (left : ReadIs) (l : List A) → P [] → (left ≡ Same → P l)
    → P (where_same left l [])
where-same-keeps P Same l none some' = some' refl
where-same-keeps P _ l none some' = none

-- the entry, if there is one
pub said-entry : {X : Type 0} (v : View X) (left : ReadIs) (said : Option X)
    → (where_same left (entries_of v said) [] ≡ [])
    ⊎ ((x : X) × (where_same left (entries_of v said) [] ≡ entry_of v x ∷ []))
said-entry v Same (Some x) = inr (x, refl)
said-entry v Same None = inl refl
said-entry v _ said = inl refl

-- what is said is the next entry of the pass's first number
pub is-turn : {X : Type 0} (start : Origin) (releases : List Release) (history : List (Entry X)) (v : View X)
    (said : Option X) → KnowsLists start releases history v → 0 < length v.used → IsTurn history (entries_of v said)
is-turn start releases history v None g number = tt
is-turn start releases history v (Some x) g number = (
  ap (λ k. k + 1) (ap (entries_under (slice_index v.used 0)) (mine-in v.used history v.seen v.mine g.mine g.heard)
      ∙ calls-by (slice_index v.used 0) v.used history (has-first v.used number)),
  refl,
)

tie-each : (P : Tie → Type 0) (q : ℕ) (words : List ℕ) (k : ℕ) (o : Option Open)
    → ((x : Open) → o ≡ Some x → P (record {
      page = k;
      version = x.version;
      of = q;
      words = words;
    })) → Each P (tie_of q words k o)
tie-each P q words k None f = tt
tie-each P q words k (Some x) f = (f x refl, tt)

pub ties-each : {X : Type 0} (P : Tie → Type 0) (v : View X) (q : ℕ) (words : List ℕ) (n : ℕ)
    → ((k : ℕ) → k < n → k ≢ q → (x : Open) → (seat_of v k).reading ≡ Some x → P (record {
      page = k;
      version = x.version;
      of = q;
      words = words;
    })) → Each P (ties_below n v q words)
ties-each P v q words zero f = tt
ties-each P v q words (suc n) f =
    each-both P (if eqb n q then [] else tie_of q words n (seat_of v n).reading) (ties_below n v q words)
    (⊎_elim
    (λ e. rw (eq-eqb n q e) tt)
    (λ ne. rw (ne_eqb n q ne) (tie-each P q words n (seat_of v n).reading (f n (omega arith) ne)))
    (cases_eq n q))
    (ties-each P v q words n (λ k l. f k (omega arith)))

-- a look changes no version and no words
pub tie-looked : (tied : Start → ℕ → List ℕ → ℕ → List ℕ → Type 0) (began : Start) (w : World) (a p : ℕ)
    (pending : ℕ → Bool) (t : Tie) → TieHolds tied began w pending t → TieHolds tied began (world_after w (Look a p))
    pending t
tie-looked tied began w a p pending t h =
    let same = upd_over-keeps (λ (y : Page). y.version) w.core.head p w.core.pages (λ q. looked (w.core.pages q) a)
    (λ _ _. refl) t.page in
    (h.0, subst (λ n. t.version ≤ n) (sym same) h.1, λ e. h.2 (e ∙ same))

module _ {X B : Type 0} (stored : B → Stored) (keeps : Start → Kept X → Type 0)
    (tied : Start → ℕ → List ℕ → ℕ → List ℕ → Type 0) (start : Origin) (tells : Bool) (s : Table (Option B) (View X))
    (r : Ruled stored keeps tied start tells s) (id : ℕ) (v : View X) (p : ℕ) (said : Option X) where
  abbrev old : World
  old = world_of stored start r.releases r.drafts s

  abbrev pub look-left : ReadIs
  look-left = left_at (slice_index s.words p) (seat_of v p).reading

  -- the page's last words, as the pass knows them after the look
  abbrev pub look-last : List ℕ
  look-last = (last_in v.start (r.releases ++ []) p).words

  abbrev pub look-entries : List (Entry X)
  look-entries = where_same look-left (entries_of v said) []

  abbrev pub look-inner : View X
  look-inner = looked_view p said (slice_index s.words p) look-last v

  abbrev pub look-did : Did
  look-did = did_load (places.State p) (slice_index s.words p)

  abbrev pub look-after : View X
  look-after = after_step stored keeps tied start tells s r s.words [] look-entries look-did look-inner

  abbrev kept : Kept X
  kept = kept_of old r.history s.views

  -- the layer above keeps its relation with what is said, where the open read stays
  abbrev KeepsSaid : Type 0
  KeepsSaid = start.tells ≡ true → keeps (began_of start) kept → keeps (began_of start) (told look-entries kept)

  keeps-none : keeps (began_of start) kept → keeps (began_of start) (told [] kept)
  keeps-none = subst (λ h. keeps (began_of start) (record kept { history = h })) (sym (append-none r.history))

  -- so it does where nothing is said, or it does once the open read has stayed
  keeps-where : (said ≡ None) ⊎ (start.tells ≡ true → look-left ≡ Same → keeps (began_of start) kept
      → keeps (began_of start) (told (entries_of v said) kept)) → KeepsSaid
  keeps-where may t is =
      where-same-keeps (λ es. keeps (began_of start) (told es kept)) look-left (entries_of v said) (keeps-none is)
      (λ same. ⊎_elim
      (λ none. subst (λ x. keeps (began_of start) (told (entries_of v x) kept)) (sym none) (keeps-none is))
      (λ says. says t same is)
      may)

  module _ (there : get_elem? s.views id ≡ some v) (live : v.live ≡ true) (l : p < start.pages) where
    pub pending-looked : is_pending (slice_set s.views id look-after) ≡ is_pending s.views
    pending-looked = fun_ext (λ q. any-same (λ y. has q y.pending) s.views id v look-after there refl)

    owed-looked : is_owed (slice_set s.views id look-after) ≡ is_owed s.views
    owed-looked = fun_ext (λ q. any-same (λ y. has q y.owed) s.views id v look-after there refl)

    -- the pass has of each page what it had, but for its open read
    seat-keeps : {A : Type 0} (f : Seat → A)
        → f (record (seat_of v p) {
          reading = open_after look-left (seat_of v p).reading
              (version_of (slice_index s.words p));
        }) ≡ f (seat_of v p) → (q : ℕ)
        → f (seat_of look-inner q) ≡ f (seat_of v q)
    seat-keeps f = upd-keeps f (put_at no_seat v.seats) p _

    -- a translation word that was loaded at the page's version names the page's frame, where the page is readable,
    -- and so does the open read
    names-frame : (state_of (slice_index s.words p) ≢ LOCKED) → (state_of (slice_index s.words p) ≢ EVICTED)
        → (o : Open) → (seat_of v p).reading ≡ Some o → o.version ≡ version_of (slice_index s.words p)
        → (t : Translation) → TranslationHolds old.core.pages t → t.page ≡ p
        → t.version ≡ version_of (slice_index s.words p) → NamesFrame v.start.frames t.word (seat_of v p).reading
    names-frame free stays' o e same t h page at =
        let not_locked : (old.core.pages p).state ≢ LOCKED = λ q. free (sym (state-here stored start s p l) ∙ q) in
        let not_evicted : (old.core.pages p).state ≢ EVICTED = λ q. stays' (sym (state-here stored start s p l) ∙ q) in
        let m : (m : Mapping) × ((old.core.pages p).trans ≡ Some m) =
        some-is (old.core.pages p).trans ((r.inv.pages p).stands.resident not_locked not_evicted) in
        let word : frame_of (mapping_of t.word) ≡ frame_of (old.core.pages p).trans =
        subst (λ q. t.version ≡ (old.core.pages q).version → (old.core.pages q).state ≢ LOCKED
        → (old.core.pages q).state ≢ EVICTED → frame_of (mapping_of t.word) ≡ frame_of (old.core.pages q).trans)
        page h.1
        (at ∙ sym (version-here stored start s p l)) not_locked not_evicted in
        record {
          frame = m.0.frame;
          names = word ∙ ap frame_of m.1;
          inside = subst (λ (y : Origin). m.0.frame < y.frames) (sym (r.heard id v there live).same_start)
              (frame-inside stored keeps tied start tells s r p m.0 m.1);
          same = λ g f. ((reads stored keeps tied start tells s r id v there live p l).current not_locked not_evicted
              o e (same ∙ sym (version-here stored start s p l))).at_frame g (ap open_frame (sym e) ∙ f) m.0 m.1;
        }

    pub look-unheld : KnowsUnheld look-after
    look-unheld alone q inside free none =
        let same : v.start ≡ start = (r.heard id v there live).same_start in
        let l' : q < start.pages = subst (λ (o : Origin). q < o.pages) same inside in
        subst (λ (o : Origin). LocksNone (slice_index s.words (index_of o (places.State q)))) (sym same)
        (subst (λ n. (n ≡ UNLOCKED) ⊎ ((n ≡ MARKED) ⊎ (n ≡ EVICTED))) (state-here stored start s q l')
        (page-open stored keeps tied start tells s r id v there alone.0 q l'
        (sym (seat-keeps (λ y. y.exclusive) refl q) ∙ free)
        (sym (seat-keeps (λ y. y.shares) refl q) ∙ none)))

    module _ (ties : (start : Start) (kept : Kept X) (q p : ℕ) → keeps start kept → q < length kept.pages
        → p < length kept.pages → tied start q (page_at kept.pages q) p (page_at kept.pages p)) where
      -- what they say of the pages that were read holds after the look, which is where the pass gets it
      pub look-ties : start.tells ≡ true
          → Each (TieHolds tied (began_of start) (world_after old (Look id p)) (is_pending s.views))
          (where_same look-left (ties_below v.start.pages v p look-last) [])
      look-ties t =
          let pages : v.start.pages ≡ start.pages = ap (λ (o : Origin). o.pages) (r.heard id v there live).same_start in
          where-same-keeps (Each (TieHolds tied (began_of start) (world_after old (Look id p)) (is_pending s.views)))
          look-left (ties_below v.start.pages v p look-last) tt
          (λ same. ties-each (TieHolds tied (began_of start) (world_after old (Look id p)) (is_pending s.views)) v p look-last v.start.pages
          (λ q lq ne o e.
          let inside : q < start.pages = subst (λ n. q < n) pages lq in
          let free : is_pending s.views p ≡ false = not-pending stored keeps tied start tells s r p l
          (free-here stored start s p l (seat_of v p).reading same) in
          tie-looked tied (began_of start) old id p (is_pending s.views) (record {
            page = q;
            version = o.version;
            of = p;
            words = look-last;
          }) (
            inside,
            ((r.inv.pages q).reads id).old o (ap (λ (y : Seat). y.reading) (seat-here stored start s id q v inside there) ∙ e),
            λ _ none. subst (λ ws. tied (began_of start) p ws q (old.histories q).last.words)
                (sym (ap (λ (y : Version). y.words) (last-told stored keeps tied start tells s r id v there live p)))
                (tied-now stored keeps tied start tells s r ties t p q l inside free none),
          )))

      pub look-told : Brings look-did [] look-entries v look-inner look-after
          → LookTold tied p said (slice_index s.words p) v look-after
      look-told brings =
          let last : _ = last-told stored keeps tied start tells s r id v there live p in
          let same_tells : v.start.tells ≡ start.tells = ap (λ (o : Origin). o.tells) (r.heard id v there live).same_start in
          let version : (old.core.pages p).version ≡ version_of (slice_index s.words p) = version-here stored start s p l in
          record {
            brings = brings;
            version = version-told stored keeps tied start tells s r id v there live p l;
            size = size-told stored keeps tied start tells s r id v there live p;
            valid = λ t same.
                let k = stays (slice_index s.words p) (seat_of v p).reading same in
                subst (λ (y : Version). Rattle.vm_event.specs.Inv.LoadsAre y.words (loads_at v p)) (sym last)
                (read-valid stored keeps tied start tells s r id v there live p l (sym same_tells ∙ t)
                (free-here stored start s p l (seat_of v p).reading same) k.0 k.1 (k.2 ∙ sym version));
            holds = λ t same.
                subst (λ (y : Version). Each (λ (d : Tie). d.page ≡ p → d.version ≡ version_of (slice_index s.words p)
                → tied (began_of v.start) d.of d.words p y.words) v.ties) (sym last)
                (each-map _ _ (λ d h e n. h e (n ∙ sym version)) v.ties
                (ties-hold stored keeps tied start tells s r id v there live p l (sym same_tells ∙ t)
                (free-here stored start s p l (seat_of v p).reading same)));
            itself = λ t same.
                subst (λ (y : Version). tied (began_of v.start) p y.words p y.words) (sym last)
                (tied-itself stored keeps tied start tells s r id v there live ties p l (sym same_tells ∙ t)
                (free-here stored start s p l (seat_of v p).reading same));
            frames = λ same.
                let k = stays (slice_index s.words p) (seat_of v p).reading same in
                let may = readable (state_of (slice_index s.words p)) k.3 in
                each-map (TranslationHolds old.core.pages) _ (names-frame may.0 may.1 k.0 k.1 k.2) v.translations
                (r.known id v there live).translations;
            since = since stored keeps tied start tells s r id v there live p l;
            older = older stored keeps tied start tells s r id v there live p l;
            unlocked = λ whole alone none. subst (λ n. (n ≡ UNLOCKED) ⊎ ((n ≡ MARKED) ⊎ (n ≡ EVICTED)))
                (state-here stored start s p l)
                (page-open stored keeps tied start tells s r id v there whole p l alone none);
          }

      module _ (may_read : Start → ℕ → List ℕ → List (Entry X) → Type 0)
          (reads : (start : Start) (kept : Kept X) (q : ℕ) (entries : List (Entry X)) → keeps start kept
          → q < length kept.pages → IsTurn kept.history entries → may_read start q (page_at kept.pages q) entries
          → keeps start (told entries kept))
          (may : MayTell tied may_read p said v) (number : 0 < length v.used) where
        -- the page's words prove what is said, if anything is said
        proved-here : (said ≡ None) ⊎ (start.tells ≡ true → look-left ≡ Same
            → may_read (began_of start) p (page_at kept.pages p) (entries_of v said))
        proved-here =
            ⊎_elim (λ none. inl none)
            (λ proves. inr (λ t same.
            let same_start = (r.heard id v there live).same_start in
            let k = stays (slice_index s.words p) (seat_of v p).reading same in
            let free = free-here stored start s p l (seat_of v p).reading same in
            subst (λ words. may_read (began_of start) p words (entries_of v said))
            (sym (page-kept stored keeps tied start tells s r p l
            (not-pending stored keeps tied start tells s r p l free)))
            (subst (λ (o : Origin). may_read (began_of o) p (old.histories p).last.words (entries_of v said)) same_start
            (proves (ap (λ (o : Origin). o.tells) same_start ∙ t) k.0 k.1 (old.histories p).last.words
            ((r.inv.pages p).sizes.last ∙ sym (ap (λ (o : Origin). o.size) same_start))
            (read-valid stored keeps tied start tells s r id v there live p l t free k.0 k.1 (k.2 ∙ sym (version-here stored start s p l)))
            (tied-itself stored keeps tied start tells s r id v there live ties p l t free)
            (each-map _ _ (λ d h e n. h e (n ∙ k.2 ∙ sym (version-here stored start s p l))) v.ties
            (ties-hold stored keeps tied start tells s r id v there live p l t free))))))
            may

        -- the layer above keeps its relation with what the page's words prove
        pub keeps-said : KeepsSaid
        keeps-said =
            keeps-where
            (⊎_elim (λ none. inl none)
            (λ proved. inr (λ t same is. reads (began_of start) kept p (entries_of v said) is
            (subst (λ n. p < n) (sym (pages-kept stored keeps tied start tells s r)) l)
            (is-turn start r.releases r.history v said (r.heard id v there live) number) (proved t same)))
            proved-here)

      module _ (may_hold : Start → List (ℕ × List ℕ) → List (Entry X) → Type 0)
          (holds : (start : Start) (kept : Kept X) (pages : List (ℕ × List ℕ)) (entries : List (Entry X))
          → keeps start kept → PagesHave kept.pages pages → IsTurn kept.history entries → may_hold start pages entries
          → keeps start (told entries kept))
          (qs : List ℕ) (inside : (q : ℕ) → has q qs ≡ true → q < start.pages)
          (one_word : (q : ℕ) → has q qs ≡ true → slice_index s.words q ≡ slice_index s.words p)
          (may : MayTellTogether tied may_hold qs p said v) (number : 0 < length v.used) where
        -- the pages' words, as the layer above has them
        words-kept : (js : List ℕ)
            → ((q : ℕ) → has q js ≡ true → (q < start.pages) × ((old.core.pages q).state ≢ LOCKED))
            → PagesHave kept.pages (map (λ q. (q, (old.histories q).last.words)) js)
        words-kept [] free = tt
        words-kept (q ∷ js) free =
            let k = free q (has-head q js) in (
              subst (λ n. q < n) (sym (pages-kept stored keeps tied start tells s r)) k.0,
              page-kept stored keeps tied start tells s r q k.0 (not-pending stored keeps tied start tells s r q k.0 k.1),
              words-kept js (λ j is. free j (has-tail q js j is)),
            )

        module _ (t : start.tells ≡ true) (same : look-left ≡ Same) where
          -- none of them is locked, as page p is not
          all-free : (q : ℕ) → has q qs ≡ true → (old.core.pages q).state ≢ LOCKED
          all-free q is e =
              (readable (state_of (slice_index s.words p)) (stays (slice_index s.words p) (seat_of v p).reading same).3).0
              (sym (ap state_of (one_word q is)) ∙ sym (state-here stored start s q (inside q is)) ∙ e)

          all-stay : (q : ℕ) → has q qs ≡ true → is_pending s.views q ≡ false
          all-stay q is = not-pending stored keeps tied start tells s r q (inside q is) (all-free q is)

          -- each has the version that page p has
          one-version : (q : ℕ) → has q qs ≡ true → version_of (slice_index s.words p) ≡ (old.core.pages q).version
          one-version q is = sym (ap version_of (one_word q is)) ∙ sym (version-here stored start s q (inside q is))

          -- so their last words are those that the pass loaded
          all-read : (o : Open) → o.version ≡ version_of (slice_index s.words p)
              → ((q : ℕ) → has q qs ≡ true → (x : Open) × ((seat_of v q).reading ≡ Some x) × (x.version ≡ o.version))
              → AreReadTogether tied qs o.version (λ q. (old.histories q).last.words) v
          all-read o at opens =
              let same_start = (r.heard id v there live).same_start in
              record {
                size = λ q is. (r.inv.pages q).sizes.last ∙ sym (ap (λ (o : Origin). o.size) same_start);
                loaded = λ q is.
                    let x = opens q is in
                    read-valid stored keeps tied start tells s r id v there live q (inside q is) t (all-free q is) x.0 x.1
                    (x.2 ∙ at ∙ one-version q is);
                ties = λ q j is has_j.
                    subst (λ (o : Origin). tied (began_of o) q (old.histories q).last.words j (old.histories j).last.words)
                    (sym same_start)
                    (tied-now stored keeps tied start tells s r ties t q j (inside q is) (inside j has_j) (all-stay q is)
                    (all-stay j has_j));
                holds = λ q is.
                    each-map _ _ (λ d h e n. h e (n ∙ at ∙ one-version q is)) v.ties
                    (ties-hold stored keeps tied start tells s r id v there live q (inside q is) t (all-free q is));
              }

        -- the layer above keeps its relation with what the words of the pages prove together
        pub keeps-together : KeepsSaid
        keeps-together =
            keeps-where
            (⊎_elim (λ none. inl none)
            (λ proves. inr (λ t same is.
            let same_start = (r.heard id v there live).same_start in
            let k = stays (slice_index s.words p) (seat_of v p).reading same in
            let m = proves (ap (λ (o : Origin). o.tells) same_start ∙ t) k.0 k.1 in
            holds (began_of start) kept (map (λ q. (q, (old.histories q).last.words)) qs) (entries_of v said) is
            (words-kept qs (λ q has_q. (inside q has_q, all-free t same q has_q)))
            (is-turn start r.releases r.history v said (r.heard id v there live) number)
            (subst (λ (o : Origin).
            may_hold (began_of o) (map (λ q. (q, (old.histories q).last.words)) qs) (entries_of v said)) same_start
            (m.1 (λ q. (old.histories q).last.words) (all-read t same k.0 k.2 m.0)))))
            may)

      module _ (keeps_said : KeepsSaid) where
        pub look-shows : Shows stored keeps tied start tells s r id v s.words r.drafts [] look-entries look-did look-inner (Look id p)
        look-shows =
            let k : KnowsPages tied start old (is_pending s.views) v = r.known id v there live in
            let page : Page = record (old.core.pages p) {
              state = state_of (slice_index s.words p);
              version = version_of (slice_index s.words p);
            } in
            event-shows stored keeps tied start tells s r id v s.words r.drafts look-entries look-did look-inner (Look id p) there live
            (record {
              word = word-loaded start s.words (places.State p) r.wide.0 r.spelled l;
              legal = act-alone old.core id p acts.Look (λ _. refl)
                  (record { actor = at-bound s.views id v there; page = l }, tt);
              leads = record {
                world = look-step stored start s r.releases r.drafts id v look-after p page l there refl refl
                    (sym (state-here stored start s p l)) (sym (version-here stored start s p l)) refl refl;
                pending = refl;
                members = λ q _. refl;
                up = omega arith;
                spares = refl;
                numbers = refl;
                freed = refl;
                owes = inl refl;
              };
              same = (refl, refl, refl, refl, refl, refl, refl);
              calls = λ o x. seat-keeps may_call refl o.page ∙ (r.blocks.away id v o there x).1;
              holds = λ q x. seat-keeps (λ y. y.exclusive) refl q ∙ x;
              knows = subst (λ (c : State).
                  (j : ℕ) → KnowsPage (seat_of look-inner j) (put_at no_held v.held j) (c.pages j))
                  (sym (acted-alone old.core id p acts.Look (λ _. refl)))
                  (each-upd2 (λ j seat y. KnowsPage seat (put_at no_held v.held j) y) (put_at no_seat v.seats)
                  old.core.pages p _ (looked (old.core.pages p) id)
                  (record { calls = (k.knows p).calls; shares = (k.knows p).shares })
                  (λ j _. k.knows j));
              owners = λ q m x. k.owners q m (sym (seat-keeps may_call refl q) ∙ x);
              contents = k.contents;
              drafted = λ q x. k.drafts q (sym (seat-keeps (λ y. y.exclusive) refl q) ∙ x) ∙ draft-is start r.releases r.drafts q;
              owes = λ q x. (seat-keeps (λ y. y.exclusive) refl q ∙ (k.owed q x).0, (k.owed q x).1, (k.owed q x).2, (k.owed q x).3);
              next = λ q x. (seat-keeps (λ y. y.exclusive) refl q ∙ (k.next q x).0, (k.next q x).1);
              loaded = ([], refl, tt);
              tying = (where_same look-left (ties_below v.start.pages v p look-last) [], refl, look-ties);
              says = (said-entry v look-left said, refl);
              owner = λ t was. subst (keeps (began_of start)) (λ i. record kept {
                owed = chosen start.pages (sym owed-looked i);
                history = r.history ++ look-entries;
              })
                  (keeps_said t was);
            })

        pub look-kept : Ruled stored keeps tied start tells
            (became stored keeps tied start tells s s.words id look-after) → tells ≡ true
            → IsKeptNow keeps p (look-left ≡ Same) look-after
        look-kept ruled t =
            let telling : start.tells ≡ true = r.telling ∙ t in
            let same : look-after.start ≡ start = (r.heard id v there live).same_start in
            kept-now stored keeps start (became stored keeps tied start tells s s.words id look-after) r.drafts
            look-after p (look-left ≡ Same) l same
            (look-shows.owner telling (r.owner telling))
            (λ stays. ap (λ (f : ℕ → Bool). f p) pending-looked ∙ not-pending stored keeps tied start tells s r p l
            (free-here stored start s p l (seat_of v p).reading stays))
            (λ q e. (
              any-here (λ (u : View X). has q u.pending) (slice_set s.views id look-after) id look-after
                  (set_here s.views id look-after (at-bound s.views id v there)) e,
              sym ((r.known id v there live).drafts q (((r.known id v there live).pending q e).0) ∙ draft-is start r.releases r.drafts q),
            ))
            (λ q inside locks none.
            let locked : IsLocking (seat_of v q) = ⊎_elim (λ e. inl (sym (seat-keeps (λ y. y.exclusive) refl q) ∙ e))
            (λ some'. inr (subst (λ n. 1 ≤ n) (seat-keeps (λ y. y.shares) refl q) some')) locks in
            ap (λ (f : ℕ → Bool). f q) pending-looked ∙ no-member stored keeps tied start tells s r id v there live q inside locked none)
            (λ q le l'.
            (λ i. logical (histories_of start (append-none r.releases i) r.drafts) (pending-looked i) q)
            ∙ logical-zero stored keeps tied start tells s r telling q le l')
            (λ _. ap (λ (o : Origin). slice_index s.words (index_of o places.Next)) same ∙ sym (next-here stored start s))
            (shared-free stored keeps tied start tells (became stored keeps tied start tells s s.words id look-after)
            ruled id look-after (set_here s.views id look-after (at-bound s.views id v there)))

module _ {X B : Type 0} (stored : B → Stored) (keeps : Start → Kept X → Type 0)
    (tied : Start → ℕ → List ℕ → ℕ → List ℕ → Type 0) (tells : Bool)
    (ties : (start : Start) (kept : Kept X) (q p : ℕ) → keeps start kept → q < length kept.pages
    → p < length kept.pages → tied start q (page_at kept.pages q) p (page_at kept.pages p)) where
  -- it keeps the rule and tells what it is to tell, where the layer above keeps its relation with what is said
  plays-where : (start : Origin) (s : Table (Option B) (View X)) (r : Ruled stored keeps tied start tells s) (id : ℕ)
      (v : View X) → get_elem? s.views id ≡ some v → v.live ≡ true → 0 < length v.used → (p : ℕ) (said : Option X)
      → p < start.pages → KeepsSaid stored keeps tied start tells s r id v p said
      → (w : View X) × Ruled stored keeps tied start tells
      (became stored keeps tied start tells s (slice_set s.words p (slice_index s.words p)) id w)
      × LookTells keeps tied tells p said (slice_index s.words p) v w
  plays-where start s r id v there live number p said low kept =
      let w : View X = look-after stored keeps tied start tells s r id v p said in
      let k : Ruled stored keeps tied start tells (became stored keeps tied start tells s s.words id w)
      × Brings (look-did stored keeps tied start tells s r id v p said) []
      (look-entries stored keeps tied start tells s r id v p said) v
      (look-inner stored keeps tied start tells s r id v p said) w =
      steps stored keeps tied start tells s r id v s.words r.drafts [] _ _ _ (Look id p) there live number refl refl
      (look-shows stored keeps tied start tells s r id v p said there live low ties kept) in (
        w,
        subst (λ words. Ruled stored keeps tied start tells (became stored keeps tied start tells s words id w))
            (sym (same-word s.words p)) k.0,
        (
          look-told stored keeps tied start tells s r id v p said there live low ties k.1,
          look-kept stored keeps tied start tells s r id v p said there live low ties kept k.0,
          look-unheld stored keeps tied start tells s r id v p said there live low,
        ),
      )

  module _ (may_hold : Start → List (ℕ × List ℕ) → List (Entry X) → Type 0)
      (holds : (start : Start) (kept : Kept X) (pages : List (ℕ × List ℕ)) (entries : List (Entry X))
      → keeps start kept → PagesHave kept.pages pages → IsTurn kept.history entries → may_hold start pages entries
      → keeps start (told entries kept)) where
    -- so it does where the words of some pages, which have the same state word as this one, prove together what is said
    pub look_together-plays : (start : Origin) (s : Table (Option B) (View X)) (r : Ruled stored keeps tied start tells s)
        (id : ℕ) (v : View X) → get_elem? s.views id ≡ some v → v.live ≡ true → 0 < length v.used → (p : ℕ)
        (said : Option X) → p < start.pages → (qs : List ℕ) → ((q : ℕ) → has q qs ≡ true → q < start.pages)
        → ((q : ℕ) → has q qs ≡ true → slice_index s.words q ≡ slice_index s.words p)
        → MayTellTogether tied may_hold qs p said v
        → (w : View X) × Ruled stored keeps tied start tells
        (became stored keeps tied start tells s (slice_set s.words p (slice_index s.words p)) id w)
        × LookTells keeps tied tells p said (slice_index s.words p) v w
    look_together-plays start s r id v there live number p said low qs inside one_word may =
        plays-where start s r id v there live number p said low
        (keeps-together stored keeps tied start tells s r id v p said there live low ties may_hold holds qs inside one_word
        may number)

    module _ (shape : TableShape) (h : ℕ) (said : Option X) where
      -- the pass may step on over these pages; where the group's first page is among them, it is the next, and they
      -- prove what is said there
      record MaySay (qs : List ℕ) (u : View X) : Type 0 where
        live : u.live ≡ true
        number : 0 < length u.used
        ends : qs ≡ [] → IsFit u
        inside : (q : ℕ) → has q qs ≡ true → q < shape.pages
        first : has h qs ≡ true → (rest : List ℕ) × (qs ≡ h ∷ rest) × MayTellTogether tied may_hold qs h said u

      -- so it is on the word of a group, each of whose pages is looked at in turn, and whose first page says it
      pub look-over : (slots id : ℕ) (v : View X) → v.live ≡ true → 0 < length v.used → h < shape.pages
          → head_in shape.began.origin.groups h ≡ h
          → MayTellTogether tied may_hold (group_of shape.began.origin.groups h) h said v
          → AllowsStep (Stands stored keeps tied shape tells) slots id v h (λ n. n)
          (told_of shape tells
          (InTurn (λ q. LookTells keeps tied tells q (said_at h said q)) (group_of shape.began.origin.groups h)))
      look-over slots id v live number l own may =
          let groups : List (ℕ × ℕ) = shape.began.origin.groups in
          over-allows stored keeps tied shape tells slots id v h (λ n. n)
          (λ q. LookTells keeps tied tells q (said_at h said q)) MaySay live
          l own
          (λ fits.
          let k : (rest : List ℕ) × (group_of groups h ≡ h ∷ rest) = group-first shape.pages h groups fits in
          record {
            live = live;
            number = number;
            ends = λ none. absurd (false≢true (ap (has h) (sym none) ∙ group-has shape.pages h groups fits own h own));
            inside = λ q is. within fits own l q is;
            first = λ _. (k.0, k.1, may);
          })
          (λ w k. k.ends refl)
          (λ start shaped q rest low under s u r there none below same k.
          let proved : MayTellTogether tied may_hold (q ∷ rest) q (said_at h said q) u =
          ⊎_elim
          (λ e. subst (λ x. MayTellTogether tied may_hold (q ∷ rest) q x u)
          (sym (cond-true (eqb q h) said None (eq-eqb q h e)))
          (subst (λ j. MayTellTogether tied may_hold (q ∷ rest) j said u) (sym e)
          (k.first (subst (λ j. has j (q ∷ rest) ≡ true) e (has-head q rest))).2))
          (λ ne. inl (cond-false (eqb q h) said None (ne_eqb q h ne)))
          (cases_eq q h) in
          let m = look_together-plays start s r id u there k.live k.number q (said_at h said q) low (q ∷ rest)
          (λ j is. subst (λ n. j < n) (sym shaped.pages) (k.inside j is)) same proved in
          let fits : IsFit m.0 = fit m.2.0.brings k.live k.number in (
            m.0,
            m.1,
            m.2,
            record {
              live = fits.live;
              number = fits.number;
              ends = λ _. fits;
              inside = λ j is. k.inside j (has-tail q rest j is);
              first = λ is. absurd (false≢true (sym none ∙ subst (λ j. has j rest ≡ true)
                  (ap (λ js. slice_index js 0) (sym (k.first (has-tail q rest h is)).1)) is));
            },
          ))
        where
          within : GroupsFit shape.pages shape.began.origin.groups → head_in shape.began.origin.groups h ≡ h
              → h < shape.pages → (q : ℕ) → has q (group_of shape.began.origin.groups h) ≡ true → q < shape.pages
          within fits own l q is =
              head-below shape.pages shape.began.origin.groups fits q
              (subst (λ k. k < shape.pages)
              (⊎_elim (λ e. sym e)
              (λ ne. absurd (false≢true (sym (group-hasn't shape.pages h shape.began.origin.groups fits own q ne) ∙ is)))
              (cases_eq (head_in shape.began.origin.groups q) h)) l)

module _ {X B : Type 0} (stored : B → Stored) (keeps : Start → Kept X → Type 0)
    (tied : Start → ℕ → List ℕ → ℕ → List ℕ → Type 0) (tells : Bool) (may_read : Start → ℕ → List ℕ → List (Entry X)
    → Type 0)
    (reads : (start : Start) (kept : Kept X) (q : ℕ) (entries : List (Entry X)) → keeps start kept
    → q < length kept.pages → IsTurn kept.history entries → may_read start q (page_at kept.pages q) entries
    → keeps start (told entries kept))
    (ties : (start : Start) (kept : Kept X) (q p : ℕ) → keeps start kept → q < length kept.pages
    → p < length kept.pages → tied start q (page_at kept.pages q) p (page_at kept.pages p)) where
  -- it keeps the rule and tells what it is to tell
  pub look-plays : (start : Origin) (s : Table (Option B) (View X)) (r : Ruled stored keeps tied start tells s) (id : ℕ)
      (v : View X) → get_elem? s.views id ≡ some v → v.live ≡ true → 0 < length v.used → (p : ℕ) (said : Option X)
      → p < start.pages → MayTell tied may_read p said v
      → (w : View X) × Ruled stored keeps tied start tells
      (became stored keeps tied start tells s (slice_set s.words p (slice_index s.words p)) id w)
      × LookTells keeps tied tells p said (slice_index s.words p) v w
  look-plays start s r id v there live number p said low may =
      plays-where stored keeps tied tells ties start s r id v there live number p said low
      (keeps-said stored keeps tied start tells s r id v p said there live low ties may_read reads may number)

  -- so it is on every table
  pub look-allows : (shape : TableShape) (slots id : ℕ) (v : View X) (i : ℕ) (p : ℕ) (said : Option X) → v.live ≡ true
      → 0 < length v.used → p < shape.pages → MayTell tied may_read p said v → IsPlacedAt shape (places.State p) i
      → IsUngrouped shape.began.origin.groups p
      → AllowsStep (Stands stored keeps tied shape tells) slots id v i (λ n. n) (told_of shape tells (LookTells keeps tied tells p said))
  look-allows shape slots id v i p said live number l may is none =
      allows stored keeps tied shape tells slots id v i (places.State p) (λ n. n) (λ n. n)
      (LookTells keeps tied tells p said) live is
      (λ start has. subst (λ (o : Origin). IsUngrouped o.groups p) (sym has.same) none) (λ n. refl)
      (λ n w t. fit t.0.brings live number)
      (λ start has s r there _.
      look-plays start s r id v there live number p said (subst (λ n. p < n) (sym has.pages) l) may)

  -- and on the word of a group, where nothing is said: each of its pages is looked at in turn
  pub look_silently-over : (shape : TableShape) (slots id : ℕ) (v : View X) (h : ℕ) → v.live ≡ true → 0 < length v.used
      → h < shape.pages → head_in shape.began.origin.groups h ≡ h
      → AllowsStep (Stands stored keeps tied shape tells) slots id v h (λ n. n)
      (told_of shape tells (InTurn (λ q. LookTells keeps tied tells q None) (group_of shape.began.origin.groups h)))
  look_silently-over shape slots id v h live number l own =
      over-each stored keeps tied shape tells slots id v h (λ n. n) (λ q. LookTells keeps tied tells q None)
      (λ _ _. Unit {0}) live number l own (λ _ _. tt) (λ q n u w live has t. fit t.0.brings live has)
      (λ _ _ _ _ _ _ _ m. m)
      (λ start _ q low s u r there live has _ _. look-plays start s r id u there live has q None low (inl refl))

module _ {X B : Type 0} (stored : B → Stored) (keeps : Start → Kept X → Type 0)
    (tied : Start → ℕ → List ℕ → ℕ → List ℕ → Type 0) (tells : Bool) where
  pub look-event : LookIsItsEvent stored keeps tied tells
  look-event start s id p found said v w pass finds told =
      let page : Page = (core_shown stored start s).pages p in
      let view = told.brings.view in
      let state : state_of found ≡ page.state = ap state_of finds.1 ∙ sym (state-here stored start s p finds.0) in
      let version : version_of found ≡ page.version = ap version_of finds.1 ∙ sym (version-here stored start s p finds.0) in
      is-event (act-alone (core_shown stored start s) id p acts.Look (λ _. refl)
      (record { actor = at-bound s.views id v pass.there; page = finds.0 }, tt))
      (look-step stored start s [] (λ _. []) id v w p (record page {
        state = state_of found;
        version = version_of found;
      }) finds.0 pass.there (ap (λ (y : View X). y.out) view) (ap (λ (y : View X). holdings y) view) state version
      (ap (λ (y : View X). y.seats) view)
      (ap (λ (y : View X). y.loads) view))
      (λ i. sights.Look ((word-here stored start s p finds.0 ∙ sym finds.1) i) (left_of (record page {
        state = sym state i;
        version = sym version i;
      }) (seat-here stored start s id p v finds.0 pass.there i).reading))

-- one choice of both
pub same-both : {A : Type 0} (left : ReadIs) (x : A) → where_same left x x ≡ x
same-both read.Same x = refl
same-both _ x = refl

module _ {X : Type 0} {tied : Start → ℕ → List ℕ → ℕ → List ℕ → Type 0} {p found : ℕ} {said : Option X} {v w : View X}
    (t : LookTold tied p said found v w) where
  pub look-others : (touched : ℕ → Type 0) → touched p
      → LeavesOthers touched ((did_load (places.State p) found) ∷ []) [] v w
  look-others touched at =
      others-tied t.brings (_, refl) tt
      (λ q ne. upd-other (put_at no_seat v.seats) p _ q (apart touched at q ne))
      (λ q ne. upd-other (put_at [] v.loads) p _ q (apart touched at q ne))
      (λ q ne. refl)
      (λ q ne. refl)

  pub look-seat : seat_of w p ≡ record (seat_of v p) {
    reading = open_after (left_at found (seat_of v p).reading)
        (seat_of v p).reading (version_of found);
  }
  look-seat = ap (λ (x : View X). seat_of x p) t.brings.view ∙ upd-same (put_at no_seat v.seats) p _

  pub look-loads : loads_at w p ≡ kept_loads (left_at found (seat_of v p).reading) (loads_at v p)
  look-loads = ap (λ (x : View X). loads_at x p) t.brings.view ∙ upd-same (put_at [] v.loads) p _

  -- it says what becomes an entry, where it makes one
  pub look-says : where_same (left_at found (seat_of v p).reading) (entries_of v said) [] ≡ [] → LeavesOwn v w
  look-says none = own-from t.brings (ap (λ (l : List (Entry X)). v.mine ++ l) none ∙ append-none v.mine)
      (refl, refl, refl) (refl, λ _. (refl, refl))

  -- the locks of every page stay, and what is known under them
  pub look-holds : (q : ℕ) → HoldsPage v w q
  look-holds q = record {
    shares = ap (λ (x : View X). (seat_of x q).shares) t.brings.view ∙ upd-keeps (λ (s : Seat). s.shares)
        (put_at no_seat v.seats) p _ refl q;
    exclusive = ap (λ (x : View X). (seat_of x q).exclusive) t.brings.view ∙ upd-keeps (λ (s : Seat). s.exclusive)
        (put_at no_seat v.seats) p _ refl q;
    writing = ap (λ (x : View X). (seat_of x q).writing) t.brings.view ∙ upd-keeps (λ (s : Seat). s.writing)
        (put_at no_seat v.seats) p _ refl q;
  }

  pub looked-knows : (q : ℕ) → IsLocking (seat_of v q) → KnowsAsBefore v w q
  looked-knows = knows-still t.brings refl refl refl

module _ {X : Type 0} {tied : Start → ℕ → List ℕ → ℕ → List ℕ → Type 0} {p found : ℕ} {v w : View X}
    (t : LookTold tied p None found v w) where
  -- a look without a word to say
  pub look-own : LeavesOwn v w
  look-own = look-says t (same-both (left_at found (seat_of v p).reading) [])

  pub look-leaves : LeavesRest p (did_load (places.State p) found ∷ []) v w
  look-leaves = rest-of (look-others t (λ q. q ≡ p) refl) look-own

-- it changes no more than an open read
pub look-only : {X : Type 0} (touched : ℕ → Type 0) (tied : Start → ℕ → List ℕ → ℕ → List ℕ → Type 0) (p found : ℕ)
    (v w : View X) → touched p → LookTold tied p None found v w
    → OnlyReads touched (did_load (places.State p) found ∷ []) v w
look-only touched tied p found v w at t = only-of (look-others t touched at) (look-own t) (look-holds t)
    (looked-knows t) (alone-silent _ None _ v _ w t.brings refl)
