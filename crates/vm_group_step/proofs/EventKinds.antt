-- The steps on a group's word are their events.
use Rattle.std.specs.Prelude.{◌-◌}
use Rattle.vm_event.specs.declared.event.PageAct.{PageAct}
use Rattle.vm_event.specs.declared.event.PageAct.TheVariants as acts
use Rattle.vm_event.specs.declared.event.Seen.TheVariants as sights
use Rattle.vm_event.specs.Step.{acted_over, MayActOver}
use Rattle.vm_owner.specs.Kept.{IsTurn, PagesHave, told}
use Rattle.vm_rule.specs.declared.view.View.{View}
use Rattle.vm_rule.specs.declared.view.WordPlace.TheVariants as places
use Rattle.vm_rule.specs.{Looks.left_at, Looks.looked_view, Locks.shared_view, Locks.unshared_view}
use Rattle.vm_rule.specs.{Locks.upgraded_view, Locks.write_locked_view, Releases.evicted_view}
use Rattle.vm_step.proofs.Prelude.{after_event, Bool, core_shown, Entry, eqb, EVICTED, Event, EvictTold, FindsAt, get_elem?}
use Rattle.vm_step.proofs.Prelude.{if◌then◌else◌, inl, IsPassOf, Kept, kept_loads, last_of, Legal, length, List, LOCKED}
use Rattle.vm_step.proofs.Prelude.{locked_view, LockS, LockTold, LockW, LockX, Look, LookTold, MARKED, Mark, MarkTold}
use Rattle.vm_step.proofs.Prelude.{MAX_VERSION, MayLock, MayRaiseLock, MayShare, None, one_share_more, open_after, Option}
use Rattle.vm_step.proofs.Prelude.{Origin, page_at, refl, ReleaseE, Ruled, Seat, seat_of, seen, ShareTold, slice_index}
use Rattle.vm_step.proofs.Prelude.{slice_set, some, Start, state_of, Stored, subst, sym, Table, UNLOCKED, UnlockS, Unmark}
use Rattle.vm_step.proofs.Prelude.{unshared, UnshareTold, Upgrade, UpgradeTold, version_of, word_of, WriteLockTold}
use Rattle.vm_step.proofs.Prelude.{[], ap, false, Seen, State, suc, true, zero, ℕ, ◌+◌, ◌<◌, ◌^◌, ◌∙◌, ◌∷◌, ◌≡◌}
use Rattle.vm_step.proofs.steps.Lock.{lock_exclusive-event, lock_exclusive-plays}
use Rattle.vm_step.proofs.steps.Look.{look-event, look-plays}
use Rattle.vm_step.proofs.steps.Mark.{mark-event, mark-plays, unmark-event, unmark-plays}
use Rattle.vm_step.proofs.steps.Share.{lock_shared-event, lock_shared-plays, unlock_shared-event, unlock_shared-plays}
use Rattle.vm_step.proofs.steps.WriteBack.{lock_write_back-event, lock_write_back-plays, upgrade-event, upgrade-plays}
use Rattle.vm_step.specs.Prelude.{exchange_sees, exchanged, IsEvent, table_after}
use Rattle.vm_step.specs.steps.{Release.MayEvict, Share.MayUnshare}
use Rattle.vm_group_step.proofs.GroupEvents.{acts-at, all, are-events, Moves, moves-either, moves-from, moves-none, moves-put}
use Rattle.vm_group_step.specs.Events.{AreEventsOver}
use Rattle.vm_group_step.specs.EventKinds.{exchanged_to, LockGroupIsItsEvent, LockGroupWriteBackIsItsEvent}
use Rattle.vm_group_step.specs.EventKinds.{LookGroupIsItsEvent, MarkGroupIsItsEvent, ReleaseGroupEvictedIsItsEvent}
use Rattle.vm_group_step.specs.EventKinds.{ShareGroupIsItsEvent, UnmarkGroupIsItsEvent, UnshareGroupIsItsEvent}
use Rattle.vm_group_step.specs.EventKinds.{UpgradeGroupIsItsEvent}

-- a word that is set to what it is
set-own : (words : List ℕ) (q : ℕ) → slice_set words q (slice_index words q) ≡ words
set-own [] q = refl
set-own (x ∷ xs) zero = refl
set-own (x ∷ xs) (suc q) = ap (λ ys. x ∷ ys) (set-own xs q)

module _ {X B : Type 0} (stored : B → Stored) (keeps : Start → Kept X → Type 0)
    (tied : Start → ℕ → List ℕ → ℕ → List ℕ → Type 0) (tells : Bool) where
  -- the events' rows are those of acts on state words
  abbrev IsActOver : (ℕ → ℕ → Event) → PageAct → Type 0
  IsActOver event act =
      ((y : State) (id h : ℕ) → MayActOver y id h act → Legal y (event id h))
      × ((y : State) (id h : ℕ) → Legal y (event id h) → MayActOver y id h act)
      × ((y : State) (id h : ℕ) → acted_over y id h act ≡ after_event y (event id h))
      × ((y : State) (heads owners : ℕ → ℕ) (id h : ℕ)
      → seen (record y { head = heads; owners = owners }) (event id h) ≡ seen y (event id h))

  -- a kind of step, from its law of a page alone
  kind : (start : Origin) (May : ℕ → View X → Type 0) (Told : ℕ → ℕ → View X → View X → Type 0) (left : ℕ → ℕ)
      (event : ℕ → ℕ → Event) (sees : View X → ℕ → ℕ → Seen) (act : PageAct) (f : ℕ → Seat → Seat) → IsActOver event act
      → ((q n : ℕ) (u w : View X) → Told q n u w → Moves all (f n) q u w)
      → ((s : Table (Option B) (View X)) (id q : ℕ) (v : View X) → IsPassOf stored start keeps tied tells s id v
      → 0 < length v.used → q < start.pages → slice_index s.words q < 2 ^ 64 → May q v
      → (w : View X) × Told q (slice_index s.words q) v w)
      → ((s : Table (Option B) (View X)) (id q found : ℕ) (v w : View X) → IsPassOf stored start keeps tied tells s id v
      → FindsAt start s (places.State q) found → May q v → Told q found v w
      → IsEvent stored start s (table_after s (slice_set s.words q (left found)) id w) (event id q) (sees v q found))
      → AreEventsOver stored start keeps tied tells May Told left event sees
  kind start May Told left event sees act f is moves plays law =
      are-events stored start keeps tied tells May Told left event sees act f moves
      (λ s id q found v pass number low at below may.
      let k = plays s id q v pass number low (subst (λ n. n < 2 ^ 64) at below) may in
      let t : Told q found v k.0 = subst (λ n. Told q n v k.0) (sym at) k.1 in
      let e = law s id q found v k.0 pass (low, at) may t in (
        acts-at stored start keeps tied tells s id q (left found) act all (f found) v k.0 (moves q found v k.0 t)
            (is.1 (core_shown stored start s) id q e.legal)
            (ap (λ (y : State). y.pages) (e.core ∙ sym (is.2 (core_shown stored start s) id q))),
        e.sees,
      ))
      is.0 is.2 is.3

  module _ (law : (start : Start) (kept : Kept X) (q p : ℕ) → keeps start kept → q < length kept.pages → p < length kept.pages
      → tied start q (page_at kept.pages q) p (page_at kept.pages p)) where
    abbrev locks : Seat → Seat
    locks y = record y { exclusive = true; reading = None }

    pub lock_group-event : LockGroupIsItsEvent stored keeps tied tells
    lock_group-event start expects =
        kind start (λ q v. MayLock expects) (λ q. LockTold tied q expects)
        (exchanged_to expects (word_of LOCKED (version_of expects))) (λ id h. LockX id h expects)
        (λ v h found. exchange_sees expects found) (acts.LockX expects) (λ n y. if eqb n expects then locks y else y)
        (λ y id h l. l, λ y id h l. l, λ y id h. refl, λ y heads owners id h. refl)
        (λ q n u w t. moves-from all _ q t.brings (moves-either (eqb n expects) locks q u (locked_view q t.held (last_of w q).words u)
        (moves-put locks q u _ refl refl refl refl)))
        (λ s id q v pass number low below may.
        let k = lock_exclusive-plays stored keeps tied tells law start s pass.rule id v pass.there pass.live number q expects low may in
        (k.0, k.2))
        (λ s id q found v w pass at may t. lock_exclusive-event stored keeps tied tells start s id q expects found v w pass at may t)

    abbrev writes : Seat → Seat
    writes y = record y { shares = 1; writing = true; reading = None }

    pub lock_group_write_back-event : LockGroupWriteBackIsItsEvent stored keeps tied tells
    lock_group_write_back-event start expects =
        kind start (λ q v. state_of expects ≡ MARKED) (λ q. WriteLockTold tied q expects)
        (exchanged_to expects (word_of 1 (version_of expects))) (λ id h. LockW id h expects)
        (λ v h found. exchange_sees expects found) (acts.LockW expects) (λ n y. if eqb n expects then writes y else y)
        (λ y id h l. l, λ y id h l. l, λ y id h. refl, λ y heads owners id h. refl)
        (λ q n u w t. moves-from all _ q t.brings (moves-either (eqb n expects) writes q u (write_locked_view q t.held u)
        (moves-put writes q u _ refl refl refl refl)))
        (λ s id q v pass number low below may.
        let k = lock_write_back-plays stored keeps tied tells law start s pass.rule id v pass.there pass.live number q expects low may in
        (k.0, k.2))
        (λ s id q found v w pass at may t. lock_write_back-event stored keeps tied tells start s id q expects found v w pass at may t)

    abbrev raised : Seat → Seat
    raised y = record { shares = 0; exclusive = true; writing = false; reading = None }

    pub upgrade_group-event : UpgradeGroupIsItsEvent stored keeps tied tells
    upgrade_group-event start expects =
        kind start (λ q v. MayRaiseLock v q expects) (λ q. UpgradeTold tied q expects)
        (exchanged_to expects (word_of LOCKED (version_of expects))) (λ id h. Upgrade id h expects)
        (λ v h found. exchange_sees expects found) (acts.Upgrade expects) (λ n y. if eqb n expects then raised y else y)
        (λ y id h l. l, λ y id h l. l, λ y id h. refl, λ y heads owners id h. refl)
        (λ q n u w t. moves-from all _ q t.brings (moves-either (eqb n expects) raised q u (upgraded_view q (last_of w q).words u)
        (moves-put raised q u _ refl refl refl refl)))
        (λ s id q v pass number low below may.
        let k = upgrade-plays stored keeps tied tells law start s pass.rule id v pass.there pass.live number q expects low may in
        (k.0, k.2))
        (λ s id q found v w pass at may t. upgrade-event stored keeps tied tells start s id q expects found v w pass at may t)

    module _ (may_hold : Start → List (ℕ × List ℕ) → List (Entry X) → Type 0)
        (says : (start : Start) (kept : Kept X) (pages : List (ℕ × List ℕ)) (entries : List (Entry X))
        → keeps start kept → PagesHave kept.pages pages → IsTurn kept.history entries → may_hold start pages entries
        → keeps start (told entries kept)) where
      abbrev shares : Seat → Seat
      shares y = record y { shares = y.shares + 1; reading = None }

      pub share_group-event : ShareGroupIsItsEvent stored keeps tied tells
      share_group-event start expects =
          kind start (λ q v. MayShare expects) (λ q. ShareTold tied q expects None)
          (exchanged_to expects (word_of (one_share_more (state_of expects)) (version_of expects)))
          (λ id h. LockS id h expects)
          (λ v h found. exchange_sees expects found) (acts.LockS expects) (λ n y. if eqb n expects then shares y else y)
          (λ y id h l. l, λ y id h l. l, λ y id h. refl, λ y heads owners id h. refl)
          (λ q n u w t. moves-from all _ q t.brings (moves-either (eqb n expects) shares q u (shared_view q t.held None u)
          (moves-put shares q u _ refl refl refl refl)))
          (λ s id q v pass number low below may.
          let k = lock_shared-plays stored keeps tied tells law may_hold says start s pass.rule id v pass.there pass.live number q expects None low may (inl refl) in
          (k.0, k.2.0))
          (λ s id q found v w pass at may t. lock_shared-event stored keeps tied tells start s id q expects found None v w pass at may t)

    module _ (may_read : Start → ℕ → List ℕ → List (Entry X) → Type 0)
        (reads : (start : Start) (kept : Kept X) (q : ℕ) (entries : List (Entry X)) → keeps start kept
        → q < length kept.pages → IsTurn kept.history entries → may_read start q (page_at kept.pages q) entries
        → keeps start (told entries kept)) where
      abbrev looks : ℕ → Seat → Seat
      looks n y = record y { reading = open_after (left_at n y.reading) y.reading (version_of n) }

      pub look_group-event : (said : ℕ → Option X) → LookGroupIsItsEvent stored keeps tied tells said
      look_group-event said start =
          are-events stored start keeps tied tells (λ q v. Unit {0}) (λ q. LookTold tied q (said q)) (λ found. found) (λ id h. Look id h)
          (λ v h found. sights.Look found (left_at found (seat_of v h).reading)) acts.Look looks
          (λ q n u w t. moves-from all (looks n) q t.brings (moves-put (looks n) q u (looked_view q (said q) n (last_of w q).words u) refl refl refl refl))
          (λ s id q found v pass number low at below may.
          let k = look-plays stored keeps tied tells may_read reads law start s pass.rule id v pass.there pass.live number q None low (inl refl) in
          let t : LookTold tied q None found v k.0 = subst (λ n. LookTold tied q None n v k.0) (sym at) k.2.0 in
          let e = look-event stored keeps tied tells start s id q found None v k.0 pass (low, at) t in (
            acts-at stored start keeps tied tells s id q found acts.Look all (looks found) v k.0
                (moves-from all (looks found) q t.brings (moves-put (looks found) q v (looked_view q None found (last_of k.0 q).words v) refl refl refl refl))
                e.legal
                (ap (λ words. (core_shown stored start (table_after s words id k.0)).pages) (ap (slice_set s.words q) at ∙ set-own s.words q)
                ∙ ap (λ (y : State). y.pages) e.core),
            e.sees,
          ))
          (λ y id h l. l) (λ y id h. refl) (λ y heads owners id h. refl)

  pub mark_group-event : MarkGroupIsItsEvent stored keeps tied tells
  mark_group-event start expects =
      kind start (λ q v. state_of expects ≡ UNLOCKED) (λ q n v w. MarkTold q expects n (word_of MARKED (version_of expects)) v w)
      (exchanged_to expects (word_of MARKED (version_of expects))) (λ id h. Mark id h expects)
      (λ v h found. exchange_sees expects found) (acts.Mark expects) (λ n y. y)
      (λ y id h l. l, λ y id h l. l, λ y id h. refl, λ y heads owners id h. refl)
      (λ q n u w t. moves-from all _ q t.brings (moves-none q u))
      (λ s id q v pass number low below may.
      let k = mark-plays stored keeps tied start tells s pass.rule id v pass.there pass.live number q expects low may in
      (k.0, k.2))
      (λ s id q found v w pass at may t. mark-event stored keeps tied tells start s id q expects found v w pass at may t)

  pub unmark_group-event : UnmarkGroupIsItsEvent stored keeps tied tells
  unmark_group-event start expects =
      kind start (λ q v. state_of expects ≡ MARKED) (λ q n v w. MarkTold q expects n (word_of UNLOCKED (version_of expects)) v w)
      (exchanged_to expects (word_of UNLOCKED (version_of expects))) (λ id h. Unmark id h expects)
      (λ v h found. exchange_sees expects found) (acts.Unmark expects) (λ n y. y)
      (λ y id h l. l, λ y id h l. l, λ y id h. refl, λ y heads owners id h. refl)
      (λ q n u w t. moves-from all _ q t.brings (moves-none q u))
      (λ s id q v pass number low below may.
      let k = unmark-plays stored keeps tied start tells s pass.rule id v pass.there pass.live number q expects low may in
      (k.0, k.2))
      (λ s id q found v w pass at may t. unmark-event stored keeps tied tells start s id q expects found v w pass at may t)

  pub unshare_group-event : UnshareGroupIsItsEvent stored keeps tied tells
  unshare_group-event start =
      kind start (λ q v. MayUnshare v q) UnshareTold (λ found. found - 2 ^ 56) (λ id h. UnlockS id h)
      (λ v h found. sights.Word found) acts.UnlockS (λ n y. unshared y)
      (λ y id h l. l, λ y id h l. l, λ y id h. refl, λ y heads owners id h. refl)
      (λ q n u w t. moves-from all _ q t.brings (moves-put unshared q u (unshared_view q u) refl refl refl refl))
      (λ s id q v pass number low below may.
      let k = unlock_shared-plays stored keeps tied tells start s pass.rule id v pass.there pass.live number q low may below in
      (k.0, k.2))
      (λ s id q found v w pass at may t. unlock_shared-event stored keeps tied tells start s id q found v w pass at may t)
