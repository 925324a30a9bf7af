-- Each event on a state word keeps the invariant.
use Rattle.std.proofs.Common.{⊎_elim, ◌+◌, ◌<◌, ◌∙◌, ◌≡◌, ◌≢◌, ◌≤◌, ◌⊎◌, arith, Bool, inl, inr, List, refl, subst, sym}
use Rattle.std.proofs.Common.{ℕ}
use Rattle.std.proofs.lemmas.Bool.{cases_Bool}
use Rattle.vm_event.specs.Prelude.{finds, History, IsOwned, Keeps, LOCKED, LocksInv, MARKED, MayLeave, MayShare, Page}
use Rattle.vm_event.specs.Prelude.{PageInv, State, state_of, sum_below, UNLOCKED, upd, World}
use Rattle.vm_event.specs.declared.event.PageAct.{PageAct}
use Rattle.vm_event.specs.declared.event.PageAct.TheVariants as acts
use Rattle.vm_event.specs.declared.event.Seat.{Seat}
use Rattle.vm_event.specs.declared.event.Event.TheVariants.{Downgrade, LockS, LockW, LockX, Look, Mark, Release}
use Rattle.vm_event.specs.declared.event.Event.TheVariants.{ReleaseE, UnlockS, Unmark, Upgrade}
use Rattle.vm_event.proofs.{Locks.shared-state, Locks.sum_below-at, PageFacts.found, PageFacts.none-some, Upd.upd-self}
use Rattle.vm_event.proofs.Spares.{inv-beside}
use Rattle.vm_event.specs.Step.{number_left}
use Rattle.vm_event.proofs.Whole.{group-alone, group-both, group-history, group-loads}
use Rattle.vm_laws_state.proofs.{Lock.locked-keeps, Lock.upgraded-keeps, Look.looked-keeps, Share.shared-keeps, Share.write_locked-keeps}
use Rattle.vm_laws_state.proofs.Release.{downgraded-keeps, emptied-keeps, released-keeps}
use Rattle.vm_laws_state.proofs.Unlock.{marked-keeps, unlocked-keeps, unmarked-keeps}

-- nothing changed, the loads written as they were
same-loads : {actors : ℕ} → {size : ℕ} → {tells : Bool} → {words : ℕ → List ℕ} → {r : Page} → {h : History}
    → {l : ℕ → List (ℕ × ℕ)} → (a : ℕ) → PageInv actors size tells words r h l
    → PageInv actors size tells words r h (upd l a (l a))
same-loads {actors} {size} {tells} {words} {r} {h} {l} a i = subst (PageInv actors size tells words r h) (sym (upd-self l a)) i

-- a page that is shared, marked, unmarked, or put under write-back is not locked before
share-free : (state expects : ℕ) → MayShare expects → state ≡ state_of expects → state ≢ LOCKED
share-free state expects m f = grind (arith, m, f)

marks-free : (state : ℕ) → (state ≡ UNLOCKED) ⊎ (state ≡ MARKED) → state ≢ LOCKED
marks-free state u = grind (arith, u)

-- nor is one that has a share
unlocks-free : {actors state version : ℕ} → {seats : ℕ → Seat} → (a : ℕ) → a < actors
    → LocksInv actors state version seats → 1 ≤ (seats a).shares → state ≢ LOCKED
unlocks-free {actors} {state} {version} {seats} a lt i has =
    let sum : (seats a).shares ≤ sum_below actors (λ b. (seats b).shares) = sum_below-at actors (λ b. (seats b).shares) a lt in
    let s : (1 ≤ state) × (state < LOCKED) = shared-state state (sum_below actors (λ b. (seats b).shares)) (omega (arith, has)) i.shares in
    omega arith

-- the owner word of a page's frame names its head before and after, where its group is left in its frames
left-owned : {c : State} → {a h : ℕ} → {act : PageAct} → MayLeave c a h act → (q : ℕ) → c.head q ≡ h
    → IsOwned c q (c.head q + 1)
left-owned {c} {a} {h} {act} m q e = subst (λ k. IsOwned c q (k + 1)) (sym e) (m.owned q e)

pub look_law : (w : World) (a p : ℕ) → Keeps w (Look a p)
look_law w a p i m =
    group-loads w a p acts.Look _ i
    (λ q _. record { stands = λ _. refl; owned = i.owners.owned q; holds = looked-keeps a (i.pages q) })

pub lock_exclusive_law : (w : World) (a p expects : ℕ) → Keeps w (LockX a p expects)
lock_exclusive_law w a p expects i m =
    group-both w a p (acts.LockX expects) _ _ i
    (λ q u. ⊎_elim
    (λ e. rw e (record {
      stands = λ _. refl;
      owned = λ free. absurd (free refl);
      holds = locked-keeps a expects m.names.actor (i.pages q) (m.pages q u) e;
    }))
    (λ e. rw e (record { stands = λ _. refl; owned = i.owners.owned q; holds = same-loads a (i.pages q) }))
    (cases_Bool (finds (w.core.pages q) expects)))

pub lock_shared_law : (w : World) (a p expects : ℕ) → Keeps w (LockS a p expects)
lock_shared_law w a p expects i m =
    group-loads w a p (acts.LockS expects) _ i
    (λ q u. ⊎_elim
    (λ e. rw e (record {
      stands = λ _. refl;
      owned = λ _. i.owners.owned q
          (share-free (w.core.pages q).state expects (m.pages q u) (found (w.core.pages q) expects e).0);
      holds = shared-keeps a expects m.names.actor (i.pages q) (m.pages q u) e;
    }))
    (λ e. rw e (record { stands = λ _. refl; owned = i.owners.owned q; holds = same-loads a (i.pages q) }))
    (cases_Bool (finds (w.core.pages q) expects)))

pub unlock_shared_law : (w : World) (a p : ℕ) → Keeps w (UnlockS a p)
unlock_shared_law w a p i m =
    group-alone w a p acts.UnlockS i
    (λ q u. record {
      stands = λ _. refl;
      owned = λ _. i.owners.owned q (unlocks-free a m.names.actor (i.pages q).locks (m.pages q u).has);
      holds = unlocked-keeps a m.names.actor (i.pages q) (m.pages q u);
    })

pub mark_law : (w : World) (a p expects : ℕ) → Keeps w (Mark a p expects)
mark_law w a p expects i m =
    group-alone w a p (acts.Mark expects) i
    (λ q u. ⊎_elim
    (λ e. rw e (record {
      stands = λ _. refl;
      owned = λ _. i.owners.owned q
          (marks-free (w.core.pages q).state (inl ((found (w.core.pages q) expects e).0 ∙ m.pages q u)));
      holds = marked-keeps expects (i.pages q) (m.pages q u) e;
    }))
    (λ e. rw e (record { stands = λ _. refl; owned = i.owners.owned q; holds = i.pages q }))
    (cases_Bool (finds (w.core.pages q) expects)))

pub unmark_law : (w : World) (a p expects : ℕ) → Keeps w (Unmark a p expects)
unmark_law w a p expects i m =
    group-alone w a p (acts.Unmark expects) i
    (λ q u. ⊎_elim
    (λ e. rw e (record {
      stands = λ _. refl;
      owned = λ _. i.owners.owned q
          (marks-free (w.core.pages q).state (inr ((found (w.core.pages q) expects e).0 ∙ m.pages q u)));
      holds = unmarked-keeps expects (i.pages q) (m.pages q u) e;
    }))
    (λ e. rw e (record { stands = λ _. refl; owned = i.owners.owned q; holds = i.pages q }))
    (cases_Bool (finds (w.core.pages q) expects)))

pub lock_write_back_law : (w : World) (a p expects : ℕ) → Keeps w (LockW a p expects)
lock_write_back_law w a p expects i m =
    group-loads w a p (acts.LockW expects) _ i
    (λ q u. ⊎_elim
    (λ e. rw e (record {
      stands = λ _. refl;
      owned = λ _. i.owners.owned q
          (marks-free (w.core.pages q).state (inr ((found (w.core.pages q) expects e).0 ∙ m.pages q u)));
      holds = write_locked-keeps a expects m.names.actor (i.pages q) (m.pages q u) e;
    }))
    (λ e. rw e (record { stands = λ _. refl; owned = i.owners.owned q; holds = same-loads a (i.pages q) }))
    (cases_Bool (finds (w.core.pages q) expects)))

pub upgrade_law : (w : World) (a p expects : ℕ) → Keeps w (Upgrade a p expects)
upgrade_law w a p expects i m =
    group-both w a p (acts.Upgrade expects) _ _ i
    (λ q u. ⊎_elim
    (λ e. rw e (record {
      stands = λ _. refl;
      owned = λ free. absurd (free refl);
      holds = upgraded-keeps a expects m.names.actor (i.pages q) (m.pages q u) e;
    }))
    (λ e. rw e (record { stands = λ _. refl; owned = i.owners.owned q; holds = same-loads a (i.pages q) }))
    (cases_Bool (finds (w.core.pages q) expects)))

pub release_law : (w : World) (a p : ℕ) → Keeps w (Release a p)
release_law w a p i m = inv-beside _ w.core.spares (number_left w.core a p)
    (group-history w a p acts.Release _ i
    (λ q u. record {
      stands = λ _. refl;
      owned = λ _. left-owned m q u;
      holds = released-keeps a (i.pages q) (m.may.pages q u);
    }))

pub release_evicted_law : (w : World) (a p : ℕ) → Keeps w (ReleaseE a p)
release_evicted_law w a p i m =
    group-history w a p acts.ReleaseE _ i
    (λ q u. record {
      stands = λ _. refl;
      owned = λ _ n at. absurd (none-some n (sym (m.pages q u).empty ∙ at));
      holds = emptied-keeps a (i.pages q) (m.pages q u);
    })

pub downgrade_law : (w : World) (a p : ℕ) → Keeps w (Downgrade a p)
downgrade_law w a p i m = inv-beside _ w.core.spares (number_left w.core a p)
    (group-history w a p acts.Downgrade _ i
    (λ q u. record {
      stands = λ _. refl;
      owned = λ _. left-owned m q u;
      holds = downgraded-keeps a m.may.names.actor (i.pages q) (m.may.pages q u);
    }))
