-- A share that is taken, and one that is given up: what each shows of itself and tells, also with what is said; that
-- the table allows them, and that they are
-- their events.
--
-- What a share leaves that was taken, or given up: it speaks of one page, of whose shares the pass has one more, or
-- one less.
use Rattle.std.proofs.Common.{eq-eqb}
use Rattle.vm_event.specs.declared.event.PageAct.TheVariants as acts
use Rattle.vm_event.specs.declared.event.Seen.TheVariants as sights
use Rattle.vm_event.proofs.Alone.{act-alone, acted-alone}
use Rattle.vm_owner.specs.Kept.{PagesHave, IsTurn, told}
use Rattle.vm_rule.specs.Prelude.{entries_where, mine_with}
use Rattle.vm_event.specs.Groups.{head_in, IsUngrouped}
use Rattle.vm_rule.specs.Spread.{group_of}
use Rattle.vm_step.specs.Over.{InTurn}
use Rattle.vm_step.proofs.Over.{over-each}
use Rattle.vm_rule.specs.declared.view.WordPlace.TheVariants as places
use Rattle.vm_step.specs.steps.Share.{HasShare, LockSharedTells, MayTellHeld, pages_known}
use Rattle.vm_step.proofs.{Evidenced.taken-view, Fit.either-has, Fit.either-lives, Fit.fit, Keeping.kept-now}
use Rattle.vm_step.proofs.{Keeping.shared-free, Logical.not-pending, Logical.page-kept, Logical.pages-kept}
use Rattle.vm_step.proofs.{Mine.no-member, Quiet.event-shows, Quiet.quiet-shows, Quiet.ShowsQuiet, Standing.allows}
use Rattle.vm_step.proofs.{steps.Look.is-turn, Unclaimed.logical-zero, Written.word-left}
use Rattle.vm_step.proofs.Exchange.{draft-stays, exchange-event, finding, IsExchange, knows-owner, locks-exchange}
use Rattle.vm_step.proofs.Exchange.{names, owner_at, page_held, seat-shows, sharer-shows, tried-says, tried-validates}
use Rattle.vm_step.proofs.Here.{frame-inside, reads, validates, version-told, world}
use Rattle.vm_step.proofs.Prelude.{any-here, any-same, append-none, at-bound, began_of, chosen, core_shown, draft-is}
use Rattle.vm_step.proofs.Prelude.{Each, entries_of, Entry, entry_of, finds, fun_ext, has, histories_of, holdings}
use Rattle.vm_step.proofs.Prelude.{index_of, is_owed, is_pending, IsKeptNow, kept_of, KnowsPages, logical, next-here}
use Rattle.vm_step.proofs.Prelude.{set_here, Shows, Version, World, world_after, ◌++◌, [], after_step, AllowsStep, ap}
use Rattle.vm_step.proofs.Prelude.{arith, became, block-here, Bool, Brings, Did, did_change, did_exchange, either}
use Rattle.vm_step.proofs.Prelude.{eqb, EVICTED, false, frame_of, get_elem?, has_lock, Held, if◌then◌else◌, inl, inr}
use Rattle.vm_step.proofs.Prelude.{IsLocking, IsPlacedAt, IsSome, Kept, KnowsAsBefore, KnowsOwner, KnowsPage, last_of}
use Rattle.vm_step.proofs.Prelude.{LeavesRest, length, less-state, less-version, List, loads_at, LOCKED, LockS}
use Rattle.vm_step.proofs.Prelude.{LockSharedIsItsEvent, ltb-true, Mapping, may_call, MayShare, MayUnlock, MayUnshare}
use Rattle.vm_step.proofs.Prelude.{nat_lt, nat_tests, no_held, no_seat, None, one_share_more, Option, or_assoc}
use Rattle.vm_step.proofs.Prelude.{or_cases, or_right, Origin, Page, page_at, Put, put, put_at, refl, Ruled, Seat}
use Rattle.vm_step.proofs.Prelude.{seat-here, seat_of, shared, shared-here, shared_view, ShareTold, slice_index}
use Rattle.vm_step.proofs.Prelude.{slice_set, Some, some, some-same, TableShape, Stands, Start, state-here, state_of}
use Rattle.vm_step.proofs.Prelude.{steps, Stored, subst, sym, Table, told_of, true, UnlockS, unlocks-step}
use Rattle.vm_step.proofs.Prelude.{UnlockSharedIsItsEvent, unshared, unshared_view, UnshareTold, upd-keeps, upd-other}
use Rattle.vm_step.proofs.Prelude.{upd-same, version-here, version_of, View, word-here, word_of, ℕ, ⊎_elim, ◌%◌, ◌+◌}
use Rattle.vm_step.proofs.Prelude.{◌-◌, ◌<◌, ◌^◌, ◌||◌, ◌∙◌, ◌∷◌, ◌≡◌, ◌≢◌, ◌≤◌, ◌⊎◌}
use Rattle.vm_step.proofs.steps.Event.{is-event}
use Rattle.vm_step.proofs.steps.Leaving.{apart, knows-still, last-still, LeavesOthers}
use Rattle.vm_step.proofs.steps.Leaving.{LeavesOwn, others-tied, own-from, rest-of}

-- a word that may be shared is of a page that is neither locked nor evicted
pub shareable : (expects : ℕ) → MayShare expects → (state_of expects ≢ LOCKED) × (state_of expects ≢ EVICTED)
shareable expects may = ((λ e. grind (arith, may, e)), (λ e. grind (arith, may, e)))

-- who has a page locked may call its device, or has a share
lock-ways : (k : Seat) → has_lock k ≡ true → (may_call k ≡ true) ⊎ (1 ≤ k.shares)
lock-ways k e =
    ⊎_elim (λ x. inl x)
    (λ n. inr (let lt = ltb-true 0 k.shares n in omega (arith, lt)))
    (or_cases (k.exclusive || k.writing) (nat_lt 0 k.shares) (or_assoc k.exclusive k.writing (nat_lt 0 k.shares) ∙ e))

-- what the pass knows of the page, whether or not it had it locked before
put-else : (known : Bool) (p q : ℕ) (h : Held) (hs : List (Put Held)) → q ≢ p
    → put_at no_held (if known then hs else put p h hs) q ≡ put_at no_held hs q
put-else true p q h hs ne = refl
put-else false p q h hs ne = upd-other (put_at no_held hs) p h q ne

knows-shared : (known : Bool) (p id : ℕ) (k : Seat) (h : Held) (hs : List (Put Held)) (y : Page) → has_lock k ≡ known
    → KnowsPage k (put_at no_held hs p) y → (h.mapping ≡ y.trans) × (h.fault ≡ y.fault) × (h.block.words ≡ y.block)
    × (h.block.count ≡ y.count)
    → KnowsPage (record k { shares = k.shares + 1; reading = None }) (put_at no_held (if known then hs else put p h hs) p) (shared y id)
knows-shared true p id k h hs y e knows is =
    record {
      calls = knows.calls;
      shares = λ _. ⊎_elim (λ m. ap frame_of (knows.calls m).0) knows.shares (lock-ways k e);
    }
knows-shared false p id k h hs y e knows is =
    rw (upd-same (put_at no_held hs) p h) (record { calls = λ _. is; shares = λ _. ap frame_of is.0 })

-- and the owner word of its frame
owner-shared : (known : Bool) (p : ℕ) (k : Seat) (h : Held) (hs : List (Put Held)) (owners : ℕ → ℕ)
    → h.owner ≡ owner_at owners h.mapping → KnowsOwner owners k (put_at no_held hs p)
    → KnowsOwner owners (record k { shares = k.shares + 1; reading = None }) (put_at no_held (if known then hs else put p h hs) p)
owner-shared true p k h hs owners is knows = knows
owner-shared false p k h hs owners is knows =
    rw (upd-same (put_at no_held hs) p h) (knows-owner owners (record k {
      shares = k.shares + 1;
      reading = None;
    }) h is)

-- two pages in one frame
pub framed-some : (o t : Option Mapping) → frame_of o ≡ frame_of t → IsSome t → IsSome o
framed-some None None e x = x
framed-some None (Some m) e x = cc
framed-some (Some n) t e x = refl

pub framed-same : (o t : Option Mapping) (m : Mapping) → frame_of o ≡ frame_of t → o ≡ Some m
    → (n : Mapping) × (t ≡ Some n) × (m.frame ≡ n.frame)
framed-same o None m e x = cc
framed-same o (Some n) m e x = (n, refl, some-same m.frame n.frame (sym (ap frame_of x) ∙ e))

-- who may call the device with a share less could call it before
unshared-calls : (k : Seat) → may_call (unshared k) ≡ true → may_call k ≡ true
unshared-calls k m = grind (arith, nat_tests, m)

module _ {X B : Type 0} (stored : B → Stored) (keeps : Start → Kept X → Type 0)
    (tied : Start → ℕ → List ℕ → ℕ → List ℕ → Type 0) (start : Origin) (tells : Bool) (s : Table (Option B) (View X))
    (r : Ruled stored keeps tied start tells s)
    (id : ℕ) (v : View X) (there : get_elem? s.views id ≡ some v) (live : v.live ≡ true) (p : ℕ) (l : p < start.pages)
    (may : MayUnshare v p) where
  pub may-unlock : MayUnlock ((world stored keeps tied start tells s r).core.pages p) id
  may-unlock =
      let here = seat-here stored start s id p v l there in
      record {
        has = subst (λ (k : Seat). 1 ≤ k.shares) (sym here) may.has;
        told = λ w one.
            let writes : (seat_of v p).writing ≡ true = sym (ap (λ (k : Seat). k.writing) here) ∙ w in
            let known = ((r.known id v there live).knows p).calls (or_right (seat_of v p).exclusive (seat_of v p).writing writes) in
            sym known.1 ∙ may.told writes (sym (ap (λ (k : Seat). k.shares) here) ∙ one) ∙ known.3;
      }

-- a share that is given up of one page leaves another as it has to be for its own
unshare-stays : {X : Type 0} (q found p : ℕ) (u w : View X) → UnshareTold q found u w → p ≢ q → MayUnshare u p
    → MayUnshare w p
unshare-stays q found p u w t ne may =
    let same : seat_of (unshared_view q u) p ≡ seat_of u p = upd-other (put_at no_seat u.seats) q _ p ne in
    subst (λ (x : View _). MayUnshare x p) (sym t.brings.view) (record {
      has = subst (λ (k : Seat). 1 ≤ k.shares) (sym same) may.has;
      told = λ writes one. may.told (sym (ap (λ (k : Seat). k.writing) same) ∙ writes) (sym (ap (λ (k : Seat). k.shares) same) ∙ one);
      home = may.home;
    })

-- a share less, as the machine counts
less-wraps : (n : ℕ) → n < 18446744073709551616 → 1 ≤ state_of n → (n + (2 ^ 64 - 2 ^ 56)) % 2 ^ 64 ≡ n - 2 ^ 56
unfolding state_of
less-wraps n below some' = omega (arith, below, some')

-- ---- what is said at a share

module _ {X : Type 0} where
  -- where the share is taken what is said is an entry
  pub where-taken : (v : View X) (said : Option X) → entries_where v said true ≡ entries_of v said
  where-taken v None = refl
  where-taken v (Some x) = refl

  -- where it is lost there is none
  pub where-lost : (v : View X) (said : Option X) → entries_where v said false ≡ []
  where-lost v None = refl
  where-lost v (Some x) = refl

  -- the entry, if there is one, and the pass's own entries with it
  pub where-said : (v : View X) (said : Option X)
      → ((entries_where v said true ≡ []) ⊎ ((x : X) × (entries_where v said true ≡ entry_of v x ∷ [])))
      × (mine_with v said ≡ v.mine ++ entries_where v said true)
  where-said v None = (inl refl, sym (append-none v.mine))
  where-said v (Some x) = (inr (x, refl), refl)

module _ {X B : Type 0} (stored : B → Stored) (keeps : Start → Kept X → Type 0)
    (tied : Start → ℕ → List ℕ → ℕ → List ℕ → Type 0) (start : Origin) (tells : Bool) (s : Table (Option B) (View X))
    (r : Ruled stored keeps tied start tells s)
    (id : ℕ) (v : View X) (there : get_elem? s.views id ≡ some v) (live : v.live ≡ true) where
  abbrev kept_before : Kept X
  kept_before = kept_of (world stored keeps tied start tells s r) r.history s.views

  -- pages of which the pass has shares have the words that it knows, with one more page that nobody has locked
  -- exclusively
  known-words : (p : ℕ) → p < start.pages → ((world stored keeps tied start tells s r).core.pages p).state ≢ LOCKED
      → (qs : List ℕ) → Each (HasShare v) qs
      → PagesHave kept_before.pages (pages_known v qs ++ (p, ((world stored keeps tied start tells s r).histories p).last.words) ∷ [])
  known-words p l free [] none = (
    subst (λ n. p < n) (sym (pages-kept stored keeps tied start tells s r)) l,
    page-kept stored keeps tied start tells s r p l (not-pending stored keeps tied start tells s r p l free),
    tt,
  )
  known-words p l free (q ∷ qs) has =
      let inside : q < start.pages = subst (λ (o : Origin). q < o.pages) (r.heard id v there live).same_start has.0.0 in (
        subst (λ n. q < n) (sym (pages-kept stored keeps tied start tells s r)) inside,
        page-kept stored keeps tied start tells s r q inside (shared-free stored keeps tied start tells s r id v there q inside has.0.1)
            ∙ ap (λ (x : Version). x.words) (sym ((r.known id v there live).latest q (inr has.0.1))),
        known-words p l free qs has.1,
      )

  module _ (number : 0 < length v.used) (p : ℕ) (l : p < start.pages) (expects : ℕ) (said : Option X)
      (hit : slice_index s.words p ≡ expects)
      (free : ((world stored keeps tied start tells s r).core.pages p).state ≢ LOCKED)
      (law : (start : Start) (kept : Kept X) (q p : ℕ) → keeps start kept → q < length kept.pages
      → p < length kept.pages → tied start q (page_at kept.pages q) p (page_at kept.pages p))
      (may_hold : Start → List (ℕ × List ℕ) → List (Entry X) → Type 0)
      (holds : (start : Start) (kept : Kept X) (pages : List (ℕ × List ℕ)) (entries : List (Entry X))
      → keeps start kept → PagesHave kept.pages pages → IsTurn kept.history entries → may_hold start pages entries
      → keeps start (told entries kept))
      (may : MayTellHeld tied may_hold p (version_of expects) said v) where
    -- the layer above keeps its relation with what is said where the share is taken
    keeps-held : start.tells ≡ true → keeps (began_of start) kept_before
        → keeps (began_of start) (told (entries_where v said true) kept_before)
    keeps-held t is =
        let same = (r.heard id v there live).same_start in
        subst (λ es. keeps (began_of start) (told es kept_before)) (sym (where-taken v said))
        (⊎_elim
        (λ none. subst (λ x. keeps (began_of start) (told (entries_of v x) kept_before)) (sym none)
        (subst (λ h. keeps (began_of start) (record kept_before { history = h })) (sym (append-none r.history))
        is))
        (λ proves.
        let m = proves (ap (λ (o : Origin). o.tells) same ∙ t) in
        holds (began_of start) kept_before _ (entries_of v said) is (known-words p l free m.0 m.1)
        (is-turn start r.releases r.history v said (r.heard id v there live) number)
        (subst (λ (o : Origin).
        may_hold (began_of o) (pages_known v
        m.0 ++ (p, ((world stored keeps tied start tells s r).histories p).last.words) ∷ []) (entries_of v said))
        same
        (m.2 ((world stored keeps tied start tells s r).histories p).last.words
        ((r.inv.pages p).sizes.last ∙ sym (ap (λ (o : Origin). o.size) same))
        (validates stored keeps tied start tells s r id v there live law p expects l hit free (ap (λ (o : Origin). o.tells) same ∙ t)))))
        may)

    abbrev say_did : Did
    say_did = did_exchange (places.State p) expects (slice_index s.words p)
        (word_of (one_share_more (state_of expects)) (version_of expects))

    abbrev say_words : List ℕ
    say_words = slice_set s.words p (word_of (one_share_more (state_of expects)) (version_of expects))

    -- a share that is taken shows what it shows without a word, and the entry
    pub share-says : (held : Held) {y : Page} → IsExchange stored start s r.releases r.drafts id p expects
        (word_of (one_share_more (state_of expects)) (version_of expects)) r.drafts (shared_view p held None v)
        (LockS id p expects) y
        → finds ((world stored keeps tied start tells s r).core.pages p) expects ≡ true
        → ShowsQuiet stored keeps tied start tells s r id v say_words r.drafts say_did (shared_view p held None v) (LockS id p expects)
        → Shows stored keeps tied start tells s r id v say_words r.drafts [] (entries_where v said true) say_did
        (shared_view p held said v) (LockS id p expects)
    share-says held taken found sh =
        let k : KnowsPages tied start (world stored keeps tied start tells s r) (is_pending s.views) v = r.known id v there live in
        let w : View X = after_step stored keeps tied start tells s r say_words [] (entries_where v said true) say_did
        (shared_view p held said v) in
        let owed-stays : is_owed (slice_set s.views id w) ≡ is_owed s.views =
        fun_ext (λ q. any-same (λ (y : View X). has q y.owed) s.views id v w there refl) in
        event-shows stored keeps tied start tells s r id v say_words r.drafts (entries_where v said true) say_did
        (shared_view p held said v) (LockS id p expects) there live
        (record {
          word = sh.word;
          legal = sh.legal;
          leads = record {
            world = taken.leads _ refl refl refl refl found;
            pending = refl;
            members = λ q _. refl;
            up = let same = sh.next in omega (arith, same);
            spares = sh.spares;
            numbers = refl;
            freed = refl;
            owes = inl refl;
          };
          same = (refl, refl, refl, refl, refl, refl, refl);
          calls = sh.calls;
          holds = sh.holds;
          knows = sh.knows;
          owners = sh.owners;
          contents = sh.contents;
          drafted = sh.drafted;
          owes = λ q x. let m = k.owed q x in (sh.holds q m.0, m.1, subst (λ n. q < n) (sym sh.next) m.2, m.3);
          next = λ x is. let m = k.next x is in (sh.holds x m.0, sh.next ∙ m.1);
          loaded = sh.loaded;
          tying = ([], refl, λ _. tt);
          says = where-said v said;
          owner = λ t was. subst (keeps (began_of start))
              (λ i. record kept_before {
                next = sym sh.next i;
                owed = chosen start.pages (sym owed-stays i);
                history = r.history ++ entries_where v said true;
              })
              (keeps-held t was);
        })

    abbrev say_after : Held → View X
    say_after held = after_step stored keeps tied start tells s r say_words [] (entries_where v said true) say_did
        (shared_view p held said v)

    -- so the layer above keeps this then
    pub share-kept : (held : Held) {y : Page} → IsExchange stored start s r.releases r.drafts id p expects
        (word_of (one_share_more (state_of expects)) (version_of expects)) r.drafts (shared_view p held None v)
        (LockS id p expects) y
        → finds ((world stored keeps tied start tells s r).core.pages p) expects ≡ true
        → (world_after (world stored keeps tied start tells s r) (LockS id p expects)).core.next
        ≡ (world stored keeps tied start tells s r).core.next
        → Shows stored keeps tied start tells s r id v say_words r.drafts [] (entries_where v said true) say_did
        (shared_view p held said v) (LockS id p expects)
        → Ruled stored keeps tied start tells (became stored keeps tied start tells s say_words id (say_after held))
        → tells ≡ true → IsKeptNow keeps p (Unit {0}) (say_after held)
    share-kept held taken found next shows ruled t =
        let telling : start.tells ≡ true = r.telling ∙ t in
        let w : View X = say_after held in
        let new : Table (Option B) (View X) = became stored keeps tied start tells s say_words id w in
        let same : w.start ≡ start = (r.heard id v there live).same_start in
        let pending : is_pending new.views ≡ is_pending s.views =
        fun_ext (λ q. any-same (λ (y : View X). has q y.pending) s.views id v w there refl) in
        let next' : (core_shown stored start new).next ≡ (world stored keeps tied start tells s r).core.next =
        ap (λ (x : World). x.core.next) (taken.leads w refl refl refl refl found) ∙ next in
        kept-now stored keeps start new r.drafts w p (Unit {0}) l same
        (shows.owner telling (r.owner telling))
        (λ _. ap (λ (f : ℕ → Bool). f p) pending ∙ not-pending stored keeps tied start tells s r p l free)
        (λ q e. (
          any-here (λ (u : View X). has q u.pending) new.views id w (set_here s.views id w (at-bound s.views id v there)) e,
          sym ((r.known id v there live).drafts q (((r.known id v there live).pending q e).0) ∙ draft-is start r.releases r.drafts q),
        ))
        (no-member stored keeps tied start tells new ruled id w (set_here s.views id w (at-bound s.views id v there)) live)
        (λ q le l'.
        (λ i. logical (histories_of start (append-none r.releases i) r.drafts) (pending i) q)
        ∙ logical-zero stored keeps tied start tells s r telling q (subst (λ n. n ≤ q) next' le) l')
        (λ _. ap (λ (o : Origin). slice_index say_words (index_of o places.Next)) same ∙ sym (next-here stored start new))
        (shared-free stored keeps tied start tells new ruled id w (set_here s.views id w (at-bound s.views id v there)))

module _ {X B : Type 0} (stored : B → Stored) (keeps : Start → Kept X → Type 0)
    (tied : Start → ℕ → List ℕ → ℕ → List ℕ → Type 0) (tells : Bool) where
  module _ (law : (start : Start) (kept : Kept X) (q p : ℕ) → keeps start kept → q < length kept.pages → p < length kept.pages
      → tied start q (page_at kept.pages q) p (page_at kept.pages p))
      (may_hold : Start → List (ℕ × List ℕ) → List (Entry X) → Type 0)
      (says : (start : Start) (kept : Kept X) (pages : List (ℕ × List ℕ)) (entries : List (Entry X))
      → keeps start kept → PagesHave kept.pages pages → IsTurn kept.history entries → may_hold start pages entries
      → keeps start (told entries kept)) where
    -- taken or lost, it keeps the rule and tells what it is to tell
    pub lock_shared-plays : (start : Origin) (s : Table (Option B) (View X)) (r : Ruled stored keeps tied start tells s)
        (id : ℕ) (v : View X) → get_elem? s.views id ≡ some v → v.live ≡ true → 0 < length v.used
        → (p expects : ℕ) (said : Option X) → p < start.pages → MayShare expects
        → MayTellHeld tied may_hold p (version_of expects) said v
        → (w : View X) × Ruled stored keeps tied start tells
        (became stored keeps tied start tells s
        (slice_set s.words p (either (eqb (slice_index s.words p) expects)
        (word_of (one_share_more (state_of expects)) (version_of expects)) (slice_index s.words p))) id w)
        × LockSharedTells keeps tied tells p expects said (slice_index s.words p) v w
    lock_shared-plays start s r id v there live number p expects said l may tell =
        let page : Page = (world stored keeps tied start tells s r).core.pages p in
        let owners : ℕ → ℕ = (world stored keeps tied start tells s r).core.owners in
        let held : Held = page_held stored keeps tied start tells s r p in
        let inner : View X = shared_view p held said v in
        let known : Held = put_at no_held inner.held p in
        let locks : Bool = has_lock (seat_of v p) in
        let seat : Seat = record (seat_of v p) { shares = (seat_of v p).shares + 1; reading = None } in
        let unlocked : slice_index s.words p ≡ expects → page.state ≢ LOCKED =
        (λ hit e. (shareable expects may).0 (sym (state-here stored start s p l ∙ ap state_of hit) ∙ e)) in
        let knows : KnowsPage seat known (shared page id) =
        knows-shared locks p id (seat_of v p) held v.held page refl ((r.known id v there live).knows p)
        (refl, refl, sym (block-here stored start s p l).0, sym (block-here stored start s p l).1) in
        let frame : frame_of known.mapping ≡ frame_of page.trans = knows.shares (omega arith) in
        let taken = locks-exchange stored start s r.releases r.drafts id v p expects r.wide.0 l there may held None in
        let found = λ (hit : slice_index s.words p ≡ expects). finding stored keeps tied start tells s r id v there p expects l hit in
        let quiet = λ (hit : slice_index s.words p ≡ expects).
        sharer-shows stored keeps tied start tells s r id v there live p l expects
        (word_of (one_share_more (state_of expects)) (version_of expects)) hit (LockS id p expects) (shared page id)
        seat inner.held taken
        (λ m. m) refl
        (λ q ne. put-else locks p q held v.held ne)
        knows
        (owner-shared locks p (seat_of v p) held v.held owners refl ((r.known id v there live).owners p)) in
        let shows = λ (hit : slice_index s.words p ≡ expects). share-says stored keeps tied start tells s r id v there
        live number p l expects said hit (unlocked hit) law may_hold says tell held taken (found hit) (quiet hit) in
        let k = tried-says stored keeps tied start tells s r id v there live number p expects
        (word_of (one_share_more (state_of expects)) (version_of expects)) l (entries_where v said)
        (where-lost v said) r.drafts inner (LockS id p expects) _ refl taken shows in
        let mine : slice_index s.words p ≡ expects → put_at no_held k.0.held p ≡ known =
        (λ hit. ap (λ (y : View X). put_at no_held y.held p) k.1.brings.view
        ∙ ap {B = Held} (λ b. put_at no_held (if b then inner else v).held p)
        (eq-eqb (slice_index s.words p) expects hit)) in (
          k.0,
          k.1.rule,
          (
            record {
              held = held;
              brings = k.1.brings;
              version = k.1.version;
              since = k.1.since;
              older = k.1.older;
              size = k.1.size;
              resident = λ hit. framed-some _ page.trans (ap (λ (h : Held). frame_of h.mapping) (mine hit) ∙ frame)
                  ((r.inv.pages p).stands.resident (unlocked hit)
                  (λ e. (shareable expects may).1 (sym (state-here stored start s p l ∙ ap state_of hit) ∙ e)));
              inside = λ hit m e.
                  let n : (n : Mapping) × (page.trans ≡ Some n) × (m.frame ≡ n.frame) =
                  framed-same _ page.trans m (ap (λ (h : Held). frame_of h.mapping) (mine hit) ∙ frame) e in
                  subst (λ (o : Origin). m.frame < o.frames) (sym (r.heard id v there live).same_start)
                  (subst (λ f. f < start.frames) (sym n.2) (frame-inside stored keeps tied start tells s r p n.0 n.1));
              writes = λ e. subst (λ (k : Seat). 1 ≤ k.shares) (seat-here stored start s id p v l there)
                  ((r.inv.pages p).locks.writer id
                  (ap (λ (k : Seat). k.writing) (seat-here stored start s id p v l there) ∙ e)).0;
              reads_from = λ hit o e n f at m me.
                  let k : (k : Mapping) × (page.trans ≡ Some k) × (m.frame ≡ k.frame) =
                  framed-same _ page.trans m (ap (λ (h : Held). frame_of h.mapping) (mine hit) ∙ frame) me in
                  let version : o.version ≡ page.version = n ∙ ap version_of (sym hit) ∙ sym (version-here stored start s p l) in
                  k.2 ∙ sym (((reads stored keeps tied start tells s r id v there live p l).current (unlocked hit)
                  (λ gone. (shareable expects may).1 (sym (state-here stored start s p l ∙ ap state_of hit) ∙ gone))
                  o e version).at_frame f at k.0 k.1);
              validates = λ t hit. tried-validates stored keeps tied start tells s r id v there live number p expects
                  (word_of (one_share_more (state_of expects)) (version_of expects)) l law _ k.0 k.1 (unlocked hit) t
                  hit;
            },
            λ t hit. let one = k.2 hit in
                subst (IsKeptNow keeps p (Unit {0})) (sym one.0)
                (share-kept stored keeps tied start tells s r id v there live number p l expects said hit (unlocked hit)
                law may_hold says tell held taken (found hit) (quiet hit).next (shows hit) one.1 t),
          ),
        )

    -- so it is on every table
    pub lock_shared-allows : (shape : TableShape) (slots id : ℕ) (v : View X) (i : ℕ) (p expects : ℕ) (said : Option X) (x : ℕ)
        → v.live ≡ true → 0 < length v.used → p < shape.pages → MayShare expects
        → MayTellHeld tied may_hold p (version_of expects) said v
        → x ≡ (word_of (one_share_more (state_of expects)) (version_of expects))
        → IsPlacedAt shape (places.State p) i → IsUngrouped shape.began.origin.groups p
        → AllowsStep (Stands stored keeps tied shape tells) slots id v i (λ n. either (eqb n expects) x n)
        (told_of shape tells (LockSharedTells keeps tied tells p expects said))
    lock_shared-allows shape slots id v i p expects said x live number l may tell spells is none =
        allows stored keeps tied shape tells slots id v i (places.State p) (λ n. either (eqb n expects) x n)
        (λ n. either (eqb n expects) (word_of (one_share_more (state_of expects)) (version_of expects)) n)
        (LockSharedTells keeps tied tells p expects said) live is
        (λ start has. subst (λ (o : Origin). IsUngrouped o.groups p) (sym has.same) none)
        (λ n. ap (λ z. either (eqb n expects) z n) spells)
        (λ n w t. fit t.0.brings (either-lives _ _ v live live) (either-has _ _ v number number))
        (λ start has s r there _. lock_shared-plays start s r id v there live number p expects said
        (subst (λ n. p < n) (sym has.pages) l) may tell)

    -- and on the word of a group, where nothing is said: a share of each of its pages is taken in turn
    pub lock_shared_silently-over : (shape : TableShape) (slots id : ℕ) (v : View X) (h expects : ℕ) → v.live ≡ true
        → 0 < length v.used → h < shape.pages → MayShare expects → head_in shape.began.origin.groups h ≡ h
        → AllowsStep (Stands stored keeps tied shape tells) slots id v h
        (λ n. either (eqb n expects) (word_of (one_share_more (state_of expects)) (version_of expects)) n)
        (told_of shape tells
        (InTurn (λ q. LockSharedTells keeps tied tells q expects None) (group_of shape.began.origin.groups h)))
    lock_shared_silently-over shape slots id v h expects live number l may own =
        over-each stored keeps tied shape tells slots id v h
        (λ n. either (eqb n expects) (word_of (one_share_more (state_of expects)) (version_of expects)) n)
        (λ q. LockSharedTells keeps tied tells q expects None) (λ _ _. Unit {0}) live number l own (λ _ _. tt)
        (λ q n u w live has t. fit t.0.brings (either-lives _ _ u live live) (either-has _ _ u has has))
        (λ _ _ _ _ _ _ _ m. m)
        (λ start _ q low s u r there live has _ _.
        lock_shared-plays start s r id u there live has q expects None low may (inl refl))

  -- it keeps the rule and tells what it is to tell
  pub unlock_shared-plays : (start : Origin) (s : Table (Option B) (View X)) (r : Ruled stored keeps tied start tells s)
      (id : ℕ) (v : View X) → get_elem? s.views id ≡ some v → v.live ≡ true → 0 < length v.used → (p : ℕ)
      → p < start.pages → MayUnshare v p → slice_index s.words p < 18446744073709551616
      → (w : View X) × Ruled stored keeps tied start tells
      (became stored keeps tied start tells s
      (slice_set s.words p ((slice_index s.words p + (2 ^ 64 - 2 ^ 56)) % 2 ^ 64)) id w)
      × UnshareTold p (slice_index s.words p) v w
  unlock_shared-plays start s r id v there live number p l may below =
      let found : ℕ = slice_index s.words p in
      let less : ℕ = found - 2 ^ 56 in
      let words : List ℕ = slice_set s.words p less in
      let did : Did = did_change (places.State p) found less in
      let known = r.known id v there live in
      -- the state word counts the share
      let shared : 1 ≤ state_of found = subst (λ n. 1 ≤ n) (state-here stored start s p l)
      (shared-here stored start s id p v (r.inv.pages p).locks l there may.has).0 in
      let k = steps stored keeps tied start tells s r id v words r.drafts [] [] did (unshared_view p v) (UnlockS id p)
      there live number refl refl
      (quiet-shows stored keeps tied start tells s r id v words r.drafts did (unshared_view p v) (UnlockS id p) there live
      (seat-shows stored keeps tied start tells s r id v there live p l did less r.drafts (UnlockS id p) _
      (unshared (seat_of v p)) v.loads v.held v.drafts
      (record {
        word = word-left start s.words did less r.wide.0 r.spelled l refl refl refl;
        legal = act-alone (core_shown stored start s) id p acts.UnlockS (λ _. refl) (
          names stored keeps tied start tells s r id v there p l,
          may-unlock stored keeps tied start tells s r
              id v there live p l may,
        );
        world =
            unlocks-step stored start s r.releases r.drafts id v _ p less r.wide.0 l there refl refl refl refl
            (less-state found shared ∙ ap (λ n. n - 1) (sym (state-here stored start s p l)))
            (less-version found shared ∙ sym (version-here stored start s p l));
        core = acted-alone (core_shown stored start s) id p acts.UnlockS (λ _. refl);
      })
      (λ o x e m. absurd (may.home o x e)) (λ x. x) (λ q ne. refl)
      (record {
        calls = λ m. (known.knows p).calls (unshared-calls (seat_of v p) m);
        shares = λ some'. (known.knows p).shares (omega (arith, some'));
      })
      (λ m calls. known.owners p m (unshared-calls (seat_of v p) calls))
      (λ q t. refl)
      (λ q x. draft-stays stored keeps tied start tells s r id v there live p l q
      (sym (upd-keeps (λ (k : Seat). k.exclusive) (λ n. seat_of v n) p (unshared (seat_of v p)) refl q) ∙ x)))) in
      let w : View X = after_step stored keeps tied start tells s r words [] [] did (unshared_view p v) in (
        w,
        subst (λ x. Ruled stored keeps tied start tells
            (became stored keeps tied start tells s (slice_set s.words p x) id w))
            (sym (less-wraps found below shared)) k.0,
        record { brings = k.1; version = version-told stored keeps tied start tells s r id v there live p l; shared = shared },
      )

  -- so it is on every table
  pub unlock_shared-allows : (shape : TableShape) (slots id : ℕ) (v : View X) (i : ℕ) (p : ℕ) → v.live ≡ true
      → 0 < length v.used → p < shape.pages → MayUnshare v p → IsPlacedAt shape (places.State p) i
      → IsUngrouped shape.began.origin.groups p
      → AllowsStep (Stands stored keeps tied shape tells) slots id v i (λ n. (n + (2 ^ 64 - 2 ^ 56)) % 2 ^ 64)
      (told_of shape tells (UnshareTold p))
  unlock_shared-allows shape slots id v i p live number l may is none =
      allows stored keeps tied shape tells slots id v i (places.State p) (λ n. (n + (2 ^ 64 - 2 ^ 56)) % 2 ^ 64)
      (λ n. (n + (2 ^ 64 - 2 ^ 56)) % 2 ^ 64) (UnshareTold p) live is
      (λ start has. subst (λ (o : Origin). IsUngrouped o.groups p) (sym has.same) none) (λ n. refl)
      (λ n w t. fit t.brings live number)
      (λ start has s r there below. unlock_shared-plays start s r id v there live number p
      (subst (λ n. p < n) (sym has.pages) l) may below)

  -- and on the word of a group: a share of each of its pages is given up in turn
  pub unlock_shared-over : (shape : TableShape) (slots id : ℕ) (v : View X) (h : ℕ) → v.live ≡ true → 0 < length v.used
      → h < shape.pages → ((q : ℕ) → has q (group_of shape.began.origin.groups h) ≡ true → MayUnshare v q)
      → head_in shape.began.origin.groups h ≡ h
      → AllowsStep (Stands stored keeps tied shape tells) slots id v h (λ n. (n + (2 ^ 64 - 2 ^ 56)) % 2 ^ 64)
      (told_of shape tells (InTurn UnshareTold (group_of shape.began.origin.groups h)))
  unlock_shared-over shape slots id v h live number l may own =
      over-each stored keeps tied shape tells slots id v h (λ n. (n + (2 ^ 64 - 2 ^ 56)) % 2 ^ 64) UnshareTold
      (λ q u. MayUnshare u q) live number l own may (λ q n u w live has t. fit t.brings live has) unshare-stays
      (λ start _ q low s u r there live has may below.
      unlock_shared-plays start s r id u there live has q low may below)

  pub lock_shared-event : LockSharedIsItsEvent stored keeps tied tells
  lock_shared-event start s id p expects found said v w pass at may told =
      exchange-event stored start keeps tied tells s id p expects found _ _ _ v (shared_view p told.held said v) w _ _
      pass at (locks-exchange stored start s [] (λ _. []) id v p expects pass.rule.wide.0 at.0 pass.there may
      told.held said) told.brings refl

  pub unlock_shared-event : UnlockSharedIsItsEvent stored keeps tied tells
  unlock_shared-event start s id p found v w pass at may told =
      let r = pass.rule in
      let view = told.brings.view in
      is-event (act-alone (core_shown stored start s) id p acts.UnlockS (λ _. refl) (
        names stored keeps tied start tells s r id v pass.there p at.0,
        may-unlock stored keeps tied start
            tells s r id v pass.there pass.live p at.0 may,
      ))
      (unlocks-step stored start s [] (λ _. []) id v w p (found - 2 ^ 56) r.wide.0 at.0 pass.there
      (ap (λ (k : View X). k.out) view)
      (ap (λ (k : View X). holdings k) view)
      (ap (λ (k : View X). k.loads) view)
      (ap (λ (k : View X). k.seats) view)
      (less-state found told.shared ∙ ap (λ n. state_of n - 1) at.1 ∙ ap (λ n. n - 1) (sym (state-here stored start s p at.0)))
      (less-version found told.shared ∙ ap version_of at.1 ∙ sym (version-here stored start s p at.0)))
      (ap sights.Word (word-here stored start s p at.0 ∙ sym at.1))

-- ---- taken

module _ {X : Type 0} {tied : Start → ℕ → List ℕ → ℕ → List ℕ → Type 0} {p expects found : ℕ} {said : Option X}
    {v w : View X} (e : found ≡ expects) (t : ShareTold tied p expects said found v w) where
  abbrev pub share-did : Did
  share-did = did_exchange (places.State p) expects found (word_of (one_share_more (state_of expects)) (version_of expects))

  pub share-brings : Brings share-did [] (entries_where v said true) v (shared_view p t.held said v) w
  share-brings = subst (λ b. Brings share-did [] (entries_where v said b) v (shared_view p t.held said v) w)
      (eq-eqb found expects e) (taken-view share-did expects found v (shared_view p t.held said v) w e t.brings)

  pub share-others : (touched : ℕ → Type 0) → touched p → LeavesOthers touched (share-did ∷ []) [] v w
  share-others touched at =
      others-tied share-brings ([], refl) tt
      (λ q ne. upd-other (put_at no_seat v.seats) p _ q (apart touched at q ne))
      (λ q ne. upd-other (put_at [] v.loads) p _ q (apart touched at q ne))
      (λ q ne. put-else (has_lock (seat_of v p)) p q t.held v.held (apart touched at q ne))
      (λ q ne. refl)

  pub share-seat : seat_of w p ≡ record (seat_of v p) { shares = (seat_of v p).shares + 1; reading = None }
  share-seat = ap (λ (x : View X). seat_of x p) share-brings.view ∙ upd-same (put_at no_seat v.seats) p _

  pub share-last : (q : ℕ) → IsLocking (seat_of v q) → last_of w q ≡ last_of v q
  share-last = last-still share-brings refl

-- without a word to say
pub share-own : {X : Type 0} {tied : Start → ℕ → List ℕ → ℕ → List ℕ → Type 0} {p expects found : ℕ} {v w : View X}
    → (e : found ≡ expects) → ShareTold tied p expects None found v w → LeavesOwn v w
share-own {v = v} e t = own-from (share-brings e t) refl (refl, refl, refl) (refl, λ _. (refl, refl))

-- ---- given up

module _ {X : Type 0} {p found : ℕ} {v w : View X} (t : UnshareTold p found v w) where
  abbrev pub unshare-did : Did
  unshare-did = did_change (places.State p) found (found - 2 ^ 56)

  pub unshare-others : (touched : ℕ → Type 0) → touched p → LeavesOthers touched (unshare-did ∷ []) [] v w
  unshare-others touched at =
      others-tied t.brings ([], refl) tt (λ q ne. upd-other (put_at no_seat v.seats) p _ q (apart touched at q ne))
      (λ q ne. refl) (λ q ne. refl) (λ q ne. refl)

  pub unshare-own : LeavesOwn v w
  unshare-own = own-from t.brings refl (refl, refl, refl) (refl, λ _. (refl, refl))

  pub unshare-leaves : LeavesRest p (unshare-did ∷ []) v w
  unshare-leaves = rest-of (unshare-others (λ q. q ≡ p) refl) unshare-own

  pub unshare-seat : seat_of w p ≡ unshared (seat_of v p)
  unshare-seat = ap (λ (x : View X). seat_of x p) t.brings.view ∙ upd-same (put_at no_seat v.seats) p _

  pub unshare-loads : loads_at w p ≡ loads_at v p
  unshare-loads = ap (λ (x : View X). loads_at x p) t.brings.view

  pub unshare-knows : (q : ℕ) → IsLocking (seat_of v q) → KnowsAsBefore v w q
  unshare-knows = knows-still t.brings refl refl refl
