-- Each event leaves what the other actors know and hold.
use Rattle.std.proofs.Common.{⊎_elim, ◌≡◌, ◌≢◌, Bool, inl, List, refl, subst, ℕ}
use Rattle.std.proofs.lemmas.Bool.{cases_Bool}
use Rattle.vm_event.specs.Prelude.{acted_over, finds, History, on_page, Page, page_after, upd, World}
use Rattle.vm_event.specs.declared.event.PageAct.{PageAct}
use Rattle.vm_event.specs.declared.event.PageAct.TheVariants as acts
use Rattle.vm_event.specs.declared.event.Event.{Event}
use Rattle.vm_event.specs.declared.event.Event.TheVariants.{BLoad, Claim, Clean, Clear, Dirty, Disown, Downgrade, Give}
use Rattle.vm_event.specs.declared.event.Event.TheVariants.{Hand, Install, Load, LockS, LockW, LockX, Look, Mark}
use Rattle.vm_event.specs.declared.event.Event.TheVariants.{NLoad, OLoad, Own, Raise, Read, Release, ReleaseE, RFail}
use Rattle.vm_event.specs.declared.event.Event.TheVariants.{Store, PBLoad, PGive, PTake, Take, TLoad, UnlockS, Unmark}
use Rattle.vm_event.specs.declared.event.Event.TheVariants.{Upgrade, WFail, Write}
use Rattle.vm_event.proofs.Upd.{upd-other, upd-self, upd_over-self}
use Rattle.vm_laws_others.specs.Leaves.{Leaves, LeavesOthers}
use Rattle.vm_laws_others.proofs.Device.{cleaned-leaves, failed-leaves, mapped-leaves, raised-leaves, written-leaves}
use Rattle.vm_laws_others.proofs.Frames.{bundle_load-leaves, claim-leaves, disown-leaves, give-leaves, hand-leaves}
use Rattle.vm_laws_others.proofs.Frames.{load-leaves, next_load-leaves, own_page-leaves, owner_load-leaves}
use Rattle.vm_laws_others.proofs.Frames.{store-leaves, take-leaves}
use Rattle.vm_event.specs.Step.{number_left}
use Rattle.vm_laws_others.proofs.Spares.{give_numbers-leaves, leaves-beside, spare_load-leaves, take_numbers-leaves}
use Rattle.vm_laws_others.proofs.Page.{group-leaves, loads-over, page-leaves, page-same, PageLeaves}
use Rattle.vm_laws_others.proofs.State.{locked-leaves, marked-leaves, release-leaves, seat-leaves, shared-leaves}
use Rattle.vm_laws_others.proofs.State.{unlocked-leaves, unmarked-leaves, upgraded-leaves, write_locked-leaves}

-- an event on one page alone, by what it leaves of the page and its history
page-acts : (w : World) (a p : ℕ) (r : Page) (h : History) (ls : ℕ → ℕ → List (ℕ × ℕ))
    → PageLeaves w.core.shape.actors a (w.core.pages p) r (w.histories p) h
    → ((b q : ℕ) → b ≢ a → ls q b ≡ w.loads q b) → Leaves a w (record {
      core = on_page w.core p r;
      histories = upd w.histories p h;
      loads = ls;
    })
page-acts w a p r h ls here loads = page-leaves w a p r h ls w.core.held here loads (λ b ne. refl)

-- the same, where the history stays
page-alone : (w : World) (a p : ℕ) (r : Page) (ls : ℕ → ℕ → List (ℕ × ℕ))
    → PageLeaves w.core.shape.actors a (w.core.pages p) r (w.histories p) (w.histories p)
    → ((b q : ℕ) → b ≢ a → ls q b ≡ w.loads q b) → Leaves a w (record {
      core = on_page w.core p r;
      histories = w.histories;
      loads = ls;
    })
page-alone w a p r ls here loads =
    subst (λ hs. Leaves a w (record {
      core = on_page w.core p r;
      histories = hs;
      loads = ls;
    })) (upd-self w.histories p) (page-acts w a p r (w.histories p) ls here loads)

-- the same, where the actor's frames change in place of its loads
page-frames : (w : World) (a p : ℕ) (r : Page) (row : ℕ → Bool) → PageLeaves w.core.shape.actors a (w.core.pages p) r
    (w.histories p) (w.histories p) → Leaves a w (record {
      core = record w.core { pages = upd w.core.pages p r; held = upd w.core.held a row };
      histories = w.histories;
      loads = w.loads;
    })
page-frames w a p r row here =
    subst (λ hs. Leaves a w (record {
      core = record w.core { pages = upd w.core.pages p r; held = upd w.core.held a row };
      histories = hs;
      loads = w.loads;
    })) (upd-self w.histories p)
    (page-leaves w a p r (w.histories p) w.loads (upd w.core.held a row) here (λ b q ne. refl) (upd-other w.core.held a row))

-- ---- the events on a state word

-- an act on a state word, where the histories stay
group-alone : (w : World) (a h : ℕ) (act : PageAct) (ls : ℕ → ℕ → List (ℕ × ℕ))
    → ((q : ℕ) → w.core.head q ≡ h → PageLeaves w.core.shape.actors a (w.core.pages q)
    (page_after w.core.words (w.core.pages q) a act) (w.histories q) (w.histories q))
    → ((b q : ℕ) → b ≢ a → ls q b ≡ w.loads q b) → Leaves a w (record {
      core = acted_over w.core a h act;
      histories = w.histories;
      loads = ls;
    })
group-alone w a h act ls here loads =
    subst (λ hs. Leaves a w (record { core = acted_over w.core a h act; histories = hs; loads = ls }))
    (upd_over-self w.core.head h w.histories) (group-leaves w a h act w.histories ls here loads)

look-leaves : (w : World) (a p : ℕ) → LeavesOthers w (Look a p)
look-leaves w a p i m =
    group-alone w a p acts.Look _ (λ q _. seat-leaves _ a (w.core.pages q) (w.histories q) _)
    (loads-over w.core.head p a w.loads _)

lock_exclusive-leaves : (w : World) (a p expects : ℕ) → LeavesOthers w (LockX a p expects)
lock_exclusive-leaves w a p expects i m =
    group-leaves w a p (acts.LockX expects) _ _
    (λ q u. ⊎_elim
    (λ e. rw e (locked-leaves _ a expects (w.core.pages q) (w.histories q) (i.pages q).locks (m.pages q u) e))
    (λ e. rw e (page-same _ a (w.core.pages q) (w.histories q)))
    (cases_Bool (finds (w.core.pages q) expects)))
    (loads-over w.core.head p a w.loads _)

lock_shared-leaves : (w : World) (a p expects : ℕ) → LeavesOthers w (LockS a p expects)
lock_shared-leaves w a p expects i m =
    group-alone w a p (acts.LockS expects) _
    (λ q u. ⊎_elim
    (λ e. rw e (shared-leaves _ a expects (w.core.pages q) (w.histories q) (m.pages q u) e))
    (λ e. rw e (page-same _ a (w.core.pages q) (w.histories q)))
    (cases_Bool (finds (w.core.pages q) expects)))
    (loads-over w.core.head p a w.loads _)

unlock_shared-leaves : (w : World) (a p : ℕ) → LeavesOthers w (UnlockS a p)
unlock_shared-leaves w a p i m =
    group-alone w a p acts.UnlockS _
    (λ q u. unlocked-leaves _ a (w.core.pages q) (w.histories q) m.names.actor (i.pages q).locks (m.pages q u))
    (λ b q ne. refl)

mark-leaves : (w : World) (a p expects : ℕ) → LeavesOthers w (Mark a p expects)
mark-leaves w a p expects i m =
    group-alone w a p (acts.Mark expects) _
    (λ q u. ⊎_elim
    (λ e. rw e (marked-leaves _ a expects (w.core.pages q) (w.histories q) (m.pages q u) e))
    (λ e. rw e (page-same _ a (w.core.pages q) (w.histories q)))
    (cases_Bool (finds (w.core.pages q) expects)))
    (λ b q ne. refl)

unmark-leaves : (w : World) (a p expects : ℕ) → LeavesOthers w (Unmark a p expects)
unmark-leaves w a p expects i m =
    group-alone w a p (acts.Unmark expects) _
    (λ q u. ⊎_elim
    (λ e. rw e (unmarked-leaves _ a expects (w.core.pages q) (w.histories q) (m.pages q u) e))
    (λ e. rw e (page-same _ a (w.core.pages q) (w.histories q)))
    (cases_Bool (finds (w.core.pages q) expects)))
    (λ b q ne. refl)

lock_write_back-leaves : (w : World) (a p expects : ℕ) → LeavesOthers w (LockW a p expects)
lock_write_back-leaves w a p expects i m =
    group-alone w a p (acts.LockW expects) _
    (λ q u. ⊎_elim
    (λ e. rw e (write_locked-leaves _ a expects (w.core.pages q) (w.histories q) (m.pages q u) e))
    (λ e. rw e (page-same _ a (w.core.pages q) (w.histories q)))
    (cases_Bool (finds (w.core.pages q) expects)))
    (loads-over w.core.head p a w.loads _)

upgrade-leaves : (w : World) (a p expects : ℕ) → LeavesOthers w (Upgrade a p expects)
upgrade-leaves w a p expects i m =
    group-leaves w a p (acts.Upgrade expects) _ _
    (λ q u. ⊎_elim
    (λ e. rw e (upgraded-leaves _ a expects (w.core.pages q) (w.histories q) (i.pages q).locks (m.pages q u) e))
    (λ e. rw e (page-same _ a (w.core.pages q) (w.histories q)))
    (cases_Bool (finds (w.core.pages q) expects)))
    (loads-over w.core.head p a w.loads _)

release_full-leaves : (w : World) (a p : ℕ) → LeavesOthers w (Release a p)
release_full-leaves w a p i m = leaves-beside a w _ w.core.spares (number_left w.core a p)
    (group-leaves w a p acts.Release _ _
    (λ q u. release-leaves _ a (w.core.pages q) (w.histories q) _ _ (i.pages q).locks (m.may.pages q u).owns)
    (λ b q ne. refl))

release_evicted-leaves : (w : World) (a p : ℕ) → LeavesOthers w (ReleaseE a p)
release_evicted-leaves w a p i m =
    group-leaves w a p acts.ReleaseE _ _
    (λ q u. release-leaves _ a (w.core.pages q) (w.histories q) _ _ (i.pages q).locks (m.pages q u).owns)
    (λ b q ne. refl)

downgrade-leaves : (w : World) (a p : ℕ) → LeavesOthers w (Downgrade a p)
downgrade-leaves w a p i m = leaves-beside a w _ w.core.spares (number_left w.core a p)
    (group-leaves w a p acts.Downgrade _ _
    (λ q u. release-leaves _ a (w.core.pages q) (w.histories q) _ _ (i.pages q).locks (m.may.pages q u).owns)
    (λ b q ne. refl))

-- ---- the events on a translation

translation_load-leaves : (w : World) (a p : ℕ) → LeavesOthers w (TLoad a p)
translation_load-leaves w a p i m = page-alone w a p _ _ (seat-leaves _ a (w.core.pages p) (w.histories p) _) (λ b q ne. refl)

install-leaves : (w : World) (a p f : ℕ) → LeavesOthers w (Install a p f)
install-leaves w a p f i m = page-frames w a p _ _ (mapped-leaves _ a (w.core.pages p) (w.histories p) _ (i.pages p).locks m.page.owns)

clear-leaves : (w : World) (a p : ℕ) → LeavesOthers w (Clear a p)
clear-leaves w a p i m = page-frames w a p _ _ (mapped-leaves _ a (w.core.pages p) (w.histories p) _ (i.pages p).locks m.1.1.owns)

dirty-leaves : (w : World) (a p : ℕ) → LeavesOthers w (Dirty a p)
dirty-leaves w a p i m =
    page-alone w a p _ _ (mapped-leaves _ a (w.core.pages p) (w.histories p) _ (i.pages p).locks m.1.owns)
    (λ b q ne. refl)

clean-leaves : (w : World) (a p : ℕ) → LeavesOthers w (Clean a p)
clean-leaves w a p i m =
    page-alone w a p _ _ (cleaned-leaves _ a (w.core.pages p) (w.histories p) (i.pages p).locks m.1.writes)
    (λ b q ne. refl)

-- ---- the events of a device

read-leaves : (w : World) (a p : ℕ) → LeavesOthers w (Read a p)
read-leaves w a p i m = page-alone w a p _ _ (page-same _ a (w.core.pages p) (w.histories p)) (λ b q ne. refl)

read_failure-leaves : (w : World) (a p : ℕ) → LeavesOthers w (RFail a p)
read_failure-leaves w a p i m =
    page-alone w a p _ _ (failed-leaves _ a (w.core.pages p) (w.histories p) (i.pages p).locks (inl m.1))
    (λ b q ne. refl)

write-leaves : (w : World) (a p : ℕ) → LeavesOthers w (Write a p)
write-leaves w a p i m =
    page-alone w a p _ _ (written-leaves w.core.words _ a (w.core.pages p) (w.histories p) (i.pages p).locks m.1.call)
    (λ b q ne. refl)

write_failure-leaves : (w : World) (a p : ℕ) → LeavesOthers w (WFail a p)
write_failure-leaves w a p i m =
    page-alone w a p _ _ (failed-leaves _ a (w.core.pages p) (w.histories p) (i.pages p).locks m.1.call)
    (λ b q ne. refl)

raise-leaves : (w : World) (a p : ℕ) → LeavesOthers w (Raise a p)
raise-leaves w a p i m = page-alone w a p _ _ (raised-leaves _ a (w.core.pages p) (w.histories p) (i.pages p).locks m.1) (λ b q ne. refl)

-- ---- every event

pub leave_others : (w : World) (e : Event) → LeavesOthers w e
leave_others w (Look a p) = look-leaves w a p
leave_others w (LockX a p expects) = lock_exclusive-leaves w a p expects
leave_others w (LockS a p expects) = lock_shared-leaves w a p expects
leave_others w (UnlockS a p) = unlock_shared-leaves w a p
leave_others w (Mark a p expects) = mark-leaves w a p expects
leave_others w (Unmark a p expects) = unmark-leaves w a p expects
leave_others w (LockW a p expects) = lock_write_back-leaves w a p expects
leave_others w (Upgrade a p expects) = upgrade-leaves w a p expects
leave_others w (Release a p) = release_full-leaves w a p
leave_others w (ReleaseE a p) = release_evicted-leaves w a p
leave_others w (Downgrade a p) = downgrade-leaves w a p
leave_others w (TLoad a p) = translation_load-leaves w a p
leave_others w (Install a p f) = install-leaves w a p f
leave_others w (Clear a p) = clear-leaves w a p
leave_others w (Dirty a p) = dirty-leaves w a p
leave_others w (Clean a p) = clean-leaves w a p
leave_others w (Load a p i) = load-leaves w a p i
leave_others w (Store a f i x) = store-leaves w a f i x
leave_others w (BLoad a g) = bundle_load-leaves w a g
leave_others w (Take a g expects mask) = take-leaves w a g expects mask
leave_others w (Give a g mask) = give-leaves w a g mask
leave_others w (Read a p) = read-leaves w a p
leave_others w (RFail a p) = read_failure-leaves w a p
leave_others w (Write a p) = write-leaves w a p
leave_others w (WFail a p) = write_failure-leaves w a p
leave_others w (Raise a p) = raise-leaves w a p
leave_others w (NLoad a) = next_load-leaves w a
leave_others w (Claim a x n) = claim-leaves w a x n
leave_others w (Hand a) = hand-leaves w a
leave_others w (Own a p) = own_page-leaves w a p
leave_others w (Disown a p) = disown-leaves w a p
leave_others w (OLoad a f) = owner_load-leaves w a f
leave_others w (PBLoad a g) = spare_load-leaves w a g
leave_others w (PTake a g expects mask) = take_numbers-leaves w a g expects mask
leave_others w (PGive a g mask) = give_numbers-leaves w a g mask
