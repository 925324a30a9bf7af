-- A lock for write-back that is tried, on a marked page, and one that becomes exclusive: what they tell; that the
-- table allows them, and that they are
-- their events.
--
-- What a lock for write-back leaves that was taken, and one that became exclusive: both speak of one page, whose open
-- read is closed.
use Rattle.vm_event.specs.Groups.{head_in, IsUngrouped}
use Rattle.vm_rule.specs.Spread.{group_of}
use Rattle.vm_step.specs.Over.{InTurn}
use Rattle.vm_step.proofs.Over.{either-leaves, over-each, seat-stays}
use Rattle.vm_rule.specs.declared.view.Origin.{Origin}
use Rattle.vm_rule.specs.declared.view.WordPlace.TheVariants as places
use Rattle.vm_step.proofs.{Evidenced.taken-view, Fit.either-has, Fit.either-lives, Fit.fit}
use Rattle.vm_step.proofs.{Here.last, Here.world, Standing.allows}
use Rattle.vm_step.proofs.Exchange.{exchange-event, free-debt, free-member, free-unheld}
use Rattle.vm_step.proofs.Exchange.{held-at, known-held, lockw-exchange, opened}
use Rattle.vm_step.proofs.Exchange.{known-owner, owner-shows, page_held, sharer-shows}
use Rattle.vm_step.proofs.Exchange.{tried, tried-validates, upgrade-exchange}
use Rattle.vm_step.proofs.Prelude.{[], AllowsStep, ap, arith, Bool, Brings, Did, did_exchange, draft_of, either, eqb}
use Rattle.vm_step.proofs.Prelude.{became, false, get_elem?, has, Held, Option, Ruled, slice_set}
use Rattle.vm_step.proofs.Prelude.{some, Table, held_at, if◌then◌else◌, IsHeldAt, IsLocking, IsPlacedAt, Kept}
use Rattle.vm_step.proofs.Prelude.{last_of, LeavesRest, length, List, LOCKED, LockW, LockWriteBackIsItsEvent, MARKED}
use Rattle.vm_step.proofs.Prelude.{may_call, MayRaiseLock, no_held, no_seat, None, or_right, Page, page_at, put}
use Rattle.vm_step.proofs.Prelude.{put_at, refl, Seat, seat_of, TableShape, share_count, slice_index, Stands, Start}
use Rattle.vm_step.proofs.Prelude.{state-here, state_of, Stored, subst, sym, told_of, true, upd-other, upd-same}
use Rattle.vm_step.proofs.Prelude.{Upgrade, upgraded, upgraded_view, UpgradeIsItsEvent, UpgradeTold, Version}
use Rattle.vm_step.proofs.Prelude.{version_of, View, word_of, write_locked, write_locked_view, WriteLockTold, ℕ, ◌<◌}
use Rattle.vm_step.proofs.Prelude.{◌∙◌, ◌∷◌, ◌≡◌, ◌≢◌}
use Rattle.vm_step.proofs.steps.Leaving.{apart, last-still, LeavesOthers, LeavesOwn, others-tied, own-from, rest-of}

-- an upgrade of one page leaves another as it has to be for its own
raise-stays : {X : Type 0} (tied : Start → ℕ → List ℕ → ℕ → List ℕ → Type 0) (expects q found p : ℕ) (u w : View X)
    → UpgradeTold tied q expects found u w → p ≢ q → MayRaiseLock u p expects → MayRaiseLock w p expects
raise-stays tied expects q found p u w t ne may =
    let same : seat_of w p ≡ seat_of u p = seat-stays t.brings p (either-leaves (λ (x : View _). seat_of x p) (eqb found expects) _ u
    (upd-other (put_at no_seat u.seats) q _ p ne)) in
    record {
      state = may.state;
      below = may.below;
      writes = ap (λ (k : Seat). k.writing) same ∙ may.writes;
      one = ap (λ (k : Seat). k.shares) same ∙ may.one;
    }

module _ {X B : Type 0} (stored : B → Stored) (keeps : Start → Kept X → Type 0)
    (tied : Start → ℕ → List ℕ → ℕ → List ℕ → Type 0) (tells : Bool) where
  module _ (law : (start : Start) (kept : Kept X) (q p : ℕ) → keeps start kept → q < length kept.pages → p < length kept.pages
      → tied start q (page_at kept.pages q) p (page_at kept.pages p)) where
    -- taken or lost, either keeps the rule and tells what it is to tell
    module _ (start : Origin) (s : Table (Option B) (View X)) (r : Ruled stored keeps tied start tells s) (id : ℕ) (v : View X)
        (there : get_elem? s.views id ≡ some v) (live : v.live ≡ true) (number : 0 < length v.used) (p expects : ℕ) (l : p < start.pages) where
      -- where the word becomes x, if it is the one expected, the table meets the rule with some view of the pass of
      -- which this is told
      abbrev LocksTo : ℕ → (View X → Type 0) → Type 0
      LocksTo x told = (w : View X) × Ruled stored keeps tied start tells
          (became stored keeps tied start tells s
          (slice_set s.words p (either (eqb (slice_index s.words p) expects) x (slice_index s.words p))) id w)
          × told w

      pub lock_write_back-plays : state_of expects ≡ MARKED
          → LocksTo (word_of 1 (version_of expects)) (WriteLockTold tied p expects (slice_index s.words p) v)
      lock_write_back-plays may =
          let found-state : slice_index s.words p ≡ expects
          → ((world stored keeps tied start tells s r).core.pages p).state ≡ MARKED =
          (λ hit. state-here stored start s p l ∙ ap state_of hit ∙ may) in
          let free : slice_index s.words p ≡ expects → ((world stored keeps tied start tells s r).core.pages p).state
          ≢ LOCKED = (λ hit e. let is = found-state hit in omega (arith, is, e)) in
          let held : Held = page_held stored keeps tied start tells s r p in
          let page : Page = write_locked ((world stored keeps tied start tells s r).core.pages p) id in
          let seat : Seat = record (seat_of v p) { shares = 1; writing = true; reading = None } in
          let taken = lockw-exchange stored start s r.releases r.drafts id v p expects r.wide.0 l there may held in
          let k = tried stored keeps tied start tells s r id v there live number p expects
          (word_of 1 (version_of expects)) l r.drafts (write_locked_view p held v) (LockW id p expects) _ refl taken
          (λ hit. sharer-shows stored keeps tied start tells s r id v there live p l expects
          (word_of 1 (version_of expects)) hit (LockW id p expects) page seat (put p held v.held) taken
          (λ m. or_right (seat_of v p).exclusive true refl) refl
          (λ q ne. upd-other (put_at no_held v.held) p held q ne)
          (known-held stored keeps tied start tells s r p l seat v.held page refl refl refl refl)
          (known-owner stored keeps tied start tells s r p seat v.held)) in (
            k.0,
            k.1.rule,
            record {
              held = held;
              brings = k.1.brings;
              version = k.1.version;
              since = k.1.since;
              older = k.1.older;
              size = k.1.size;
              stands = λ hit. subst (λ (y : Version). IsHeldAt p expects v.start.frames v.start.tells y.words held)
                  (sym k.1.last) (held-at stored keeps tied start tells s r id v there p l (free hit)
                  (ap share_count (found-state hit)) live expects hit);
              free = λ hit. free-member stored keeps tied start tells s r id v there p l (free hit);
              unheld = λ hit. free-unheld stored keeps tied start tells s r id v there p l (free hit) (ap share_count (found-state hit)) live;
              validates = λ t hit. tried-validates stored keeps tied start tells s r id v there live number p expects
                  (word_of 1 (version_of expects)) l law _ k.0 k.1 (free hit) t hit;
            },
          )

      pub upgrade-plays : MayRaiseLock v p expects
          → LocksTo (word_of LOCKED (version_of expects)) (UpgradeTold tied p expects (slice_index s.words p) v)
      upgrade-plays may =
          let page : Page = (world stored keeps tied start tells s r).core.pages p in
          let free : slice_index s.words p ≡ expects → page.state ≢ LOCKED =
          (λ hit e. let is : page.state ≡ 1 = state-here stored start s p l ∙ ap state_of hit ∙ may.state in
          omega (arith, is, e)) in
          let known = r.known id v there live in
          let calls : may_call (seat_of v p) ≡ true = or_right (seat_of v p).exclusive (seat_of v p).writing may.writes in
          let words : List ℕ = (last stored keeps tied start tells s r p).words in
          let taken = upgrade-exchange stored start s r.releases r.drafts id v p expects r.wide.0 l there may words in
          let k = tried stored keeps tied start tells s r id v there live number p expects
          (word_of LOCKED (version_of expects)) l (opened stored keeps tied start tells s r p)
          (upgraded_view p words v) (Upgrade id p expects) _ refl taken
          (λ hit. owner-shows stored keeps tied start tells s r id v there live p l expects
          (word_of LOCKED (version_of expects)) hit (Upgrade id p expects) (upgraded page id) (record {
            shares = 0;
            exclusive = true;
            writing = false;
            reading = None;
          }) v.held taken
          refl (free hit)
          (λ q ne. refl)
          (record { calls = λ m. (known.knows p).calls calls; shares = λ some'. absurd (omega arith) })
          (λ m _. known.owners p m calls)) in (
            k.0,
            k.1.rule,
            record {
              brings = subst (λ (y : Version).
                  Brings (did_exchange (places.State p) expects (slice_index s.words p)
                  (word_of LOCKED (version_of expects))) [] [] v
                  (if eqb (slice_index s.words p) expects then upgraded_view p y.words v else v) k.0) (sym k.1.last)
                  k.1.brings;
              version = k.1.version;
              since = k.1.since;
              older = k.1.older;
              size = k.1.size;
              free = λ hit. free-member stored keeps tied start tells s r id v there p l (free hit);
              paid = λ hit. free-debt stored keeps tied start tells s r id v there p l (free hit) live;
              validates = λ t hit. tried-validates stored keeps tied start tells s r id v there live number p expects
                  (word_of LOCKED (version_of expects)) l law _ k.0 k.1 (free hit) t hit;
            },
          )

    -- so it is on every table
    pub lock_write_back-allows : (shape : TableShape) (slots id : ℕ) (v : View X) (i : ℕ) (p expects x : ℕ)
        → v.live ≡ true
        → 0 < length v.used → p < shape.pages → state_of expects ≡ MARKED → x ≡ (word_of 1 (version_of expects))
        → IsPlacedAt shape (places.State p) i → IsUngrouped shape.began.origin.groups p
        → AllowsStep (Stands stored keeps tied shape tells) slots id v i (λ n. either (eqb n expects) x n)
        (told_of shape tells (WriteLockTold tied p expects))
    lock_write_back-allows shape slots id v i p expects x live number l may spells is none =
        allows stored keeps tied shape tells slots id v i (places.State p) (λ n. either (eqb n expects) x n)
        (λ n. either (eqb n expects) (word_of 1 (version_of expects)) n) (WriteLockTold tied p expects) live is
        (λ start has. subst (λ (o : Origin). IsUngrouped o.groups p) (sym has.same) none)
        (λ n. ap (λ z. either (eqb n expects) z n) spells)
        (λ n w t. fit t.brings (either-lives _ _ v live live) (either-has _ _ v number number))
        (λ start has s r there _.
        lock_write_back-plays start s r id v there live number p expects (subst (λ n. p < n) (sym has.pages) l) may)

    pub upgrade-allows : (shape : TableShape) (slots id : ℕ) (v : View X) (i : ℕ) (p expects x : ℕ) → v.live ≡ true
        → 0 < length v.used → p < shape.pages → MayRaiseLock v p expects → x ≡ (word_of LOCKED (version_of expects))
        → IsPlacedAt shape (places.State p) i → IsUngrouped shape.began.origin.groups p
        → AllowsStep (Stands stored keeps tied shape tells) slots id v i (λ n. either (eqb n expects) x n)
        (told_of shape tells (UpgradeTold tied p expects))
    upgrade-allows shape slots id v i p expects x live number l may spells is none =
        allows stored keeps tied shape tells slots id v i (places.State p) (λ n. either (eqb n expects) x n)
        (λ n. either (eqb n expects) (word_of LOCKED (version_of expects)) n) (UpgradeTold tied p expects) live is
        (λ start has. subst (λ (o : Origin). IsUngrouped o.groups p) (sym has.same) none)
        (λ n. ap (λ z. either (eqb n expects) z n) spells)
        (λ n w t. fit t.brings (either-lives _ _ v live live) (either-has _ _ v number number))
        (λ start has s r there _.
        upgrade-plays start s r id v there live number p expects (subst (λ n. p < n) (sym has.pages) l) may)

    -- and on the word of a group: each of its pages is locked in turn
    pub lock_write_back-over : (shape : TableShape) (slots id : ℕ) (v : View X) (h expects : ℕ) → v.live ≡ true
        → 0 < length v.used → h < shape.pages → state_of expects ≡ MARKED → head_in shape.began.origin.groups h ≡ h
        → AllowsStep (Stands stored keeps tied shape tells) slots id v h
        (λ n. either (eqb n expects) (word_of 1 (version_of expects)) n)
        (told_of shape tells (InTurn (λ q. WriteLockTold tied q expects) (group_of shape.began.origin.groups h)))
    lock_write_back-over shape slots id v h expects live number l may own =
        over-each stored keeps tied shape tells slots id v h
        (λ n. either (eqb n expects) (word_of 1 (version_of expects)) n) (λ q. WriteLockTold tied q expects)
        (λ _ _. Unit {0}) live number l own (λ _ _. tt)
        (λ q n u w live has t. fit t.brings (either-lives _ _ u live live) (either-has _ _ u has has))
        (λ _ _ _ _ _ _ _ m. m)
        (λ start _ q low s u r there live has _ _. lock_write_back-plays start s r id u there live has q expects low may)

    pub upgrade-over : (shape : TableShape) (slots id : ℕ) (v : View X) (h expects : ℕ) → v.live ≡ true
        → 0 < length v.used → h < shape.pages
        → ((q : ℕ) → has q (group_of shape.began.origin.groups h) ≡ true → MayRaiseLock v q expects)
        → head_in shape.began.origin.groups h ≡ h
        → AllowsStep (Stands stored keeps tied shape tells) slots id v h
        (λ n. either (eqb n expects) (word_of LOCKED (version_of expects)) n)
        (told_of shape tells (InTurn (λ q. UpgradeTold tied q expects) (group_of shape.began.origin.groups h)))
    upgrade-over shape slots id v h expects live number l may own =
        over-each stored keeps tied shape tells slots id v h
        (λ n. either (eqb n expects) (word_of LOCKED (version_of expects)) n) (λ q. UpgradeTold tied q expects)
        (λ q u. MayRaiseLock u q expects) live number l own may
        (λ q n u w live has t. fit t.brings (either-lives _ _ u live live) (either-has _ _ u has has))
        (raise-stays tied expects)
        (λ start _ q low s u r there live has may _. upgrade-plays start s r id u there live has q expects low may)

  pub lock_write_back-event : LockWriteBackIsItsEvent stored keeps tied tells
  lock_write_back-event start s id p expects found v w pass at may told =
      exchange-event stored start keeps tied tells s id p expects found _ _ _ v _ w _ _ pass
      at (lockw-exchange stored start s [] (λ _. []) id v p expects pass.rule.wide.0 at.0 pass.there may
      told.held) told.brings refl

  pub upgrade-event : UpgradeIsItsEvent stored keeps tied tells
  upgrade-event start s id p expects found v w pass at may told =
      exchange-event stored start keeps tied tells s id p expects found _ _ _ v _ w _ _ pass
      at (upgrade-exchange stored start s [] (λ _. []) id v p expects pass.rule.wide.0 at.0 pass.there may
      (last_of w p).words) told.brings refl

-- ---- for write-back

module _ {X : Type 0} {tied : Start → ℕ → List ℕ → ℕ → List ℕ → Type 0} {p expects found : ℕ} {v w : View X}
    (e : found ≡ expects) (t : WriteLockTold tied p expects found v w) where
  abbrev pub write_lock-did : Did
  write_lock-did = did_exchange (places.State p) expects found (word_of 1 (version_of expects))

  pub write_lock-brings : Brings write_lock-did [] [] v (write_locked_view p t.held v) w
  write_lock-brings = taken-view write_lock-did expects found v (write_locked_view p t.held v) w e t.brings

  pub write_lock-others : (touched : ℕ → Type 0) → touched p → LeavesOthers touched (write_lock-did ∷ []) [] v w
  write_lock-others touched at =
      others-tied write_lock-brings ([], refl) tt
      (λ q ne. upd-other (put_at no_seat v.seats) p _ q (apart touched at q ne))
      (λ q ne. upd-other (put_at [] v.loads) p _ q (apart touched at q ne))
      (λ q ne. upd-other (put_at no_held v.held) p _ q (apart touched at q ne))
      (λ q ne. refl)

  pub write_lock-own : LeavesOwn v w
  write_lock-own = own-from write_lock-brings refl (refl, refl, refl) (refl, λ _. (refl, refl))

  pub write_lock-leaves : LeavesRest p (write_lock-did ∷ []) v w
  write_lock-leaves = rest-of (write_lock-others (λ q. q ≡ p) refl) write_lock-own

  pub write_lock-seat : seat_of w p ≡ record (seat_of v p) { shares = 1; writing = true; reading = None }
  write_lock-seat = ap (λ (x : View X). seat_of x p) write_lock-brings.view ∙ upd-same (put_at no_seat v.seats) p _

  pub write_lock-held : held_at w p ≡ t.held
  write_lock-held = ap (λ (x : View X). held_at x p) write_lock-brings.view ∙ upd-same (put_at no_held v.held) p _

-- ---- exclusive then

module _ {X : Type 0} {tied : Start → ℕ → List ℕ → ℕ → List ℕ → Type 0} {p expects found : ℕ} {v w : View X}
    (e : found ≡ expects) (t : UpgradeTold tied p expects found v w) where
  abbrev pub upgrade-did : Did
  upgrade-did = did_exchange (places.State p) expects found (word_of LOCKED (version_of expects))

  pub upgrade-brings : Brings upgrade-did [] [] v (upgraded_view p (last_of w p).words v) w
  upgrade-brings = taken-view upgrade-did expects found v (upgraded_view p (last_of w p).words v) w e t.brings

  pub upgrade-others : (touched : ℕ → Type 0) → touched p → LeavesOthers touched (upgrade-did ∷ []) [] v w
  upgrade-others touched at =
      others-tied upgrade-brings ([], refl) tt
      (λ q ne. upd-other (put_at no_seat v.seats) p _ q (apart touched at q ne))
      (λ q ne. upd-other (put_at [] v.loads) p _ q (apart touched at q ne))
      (λ q ne. refl)
      (λ q ne. upd-other (put_at [] v.drafts) p _ q (apart touched at q ne))

  pub upgrade-own : LeavesOwn v w
  upgrade-own = own-from upgrade-brings refl (refl, refl, refl) (refl, λ _. (refl, refl))

  pub upgrade-seat : seat_of w p ≡ record { shares = 0; exclusive = true; writing = false; reading = None }
  upgrade-seat = ap (λ (x : View X). seat_of x p) upgrade-brings.view ∙ upd-same (put_at no_seat v.seats) p _

  pub upgrade-held : (q : ℕ) → held_at w q ≡ held_at v q
  upgrade-held q = ap (λ (x : View X). held_at x q) upgrade-brings.view

  pub upgrade-draft : draft_of w p ≡ (last_of w p).words
  upgrade-draft = ap (λ (x : View X). draft_of x p) upgrade-brings.view ∙ upd-same (put_at [] v.drafts) p _

  pub upgrade-last : (q : ℕ) → IsLocking (seat_of v q) → last_of w q ≡ last_of v q
  upgrade-last = last-still upgrade-brings refl
