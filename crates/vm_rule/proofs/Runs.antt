-- Lists of events keep the invariant, and each validated read saw one version.
use Rattle.vm_event.specs.declared.event.Event.TheVariants.{PBLoad, PGive, PTake, Release}
use Rattle.vm_laws_frame.proofs.Laws.{give_numbers_law, spare_load_law, take_numbers_law}
use Rattle.std.proofs.lemmas.Bool.{eqb-true}
use Rattle.vm_event.specs.Prelude.{has_free_bit}
use Rattle.vm_laws_frame.proofs.Bits.{given-free}
use Rattle.vm_rule.proofs.Prelude.{Bool, false, if◌then◌else◌, Legal, sym, taken-free, true≢false, ℕ, ◌<◌, []}
use Rattle.vm_rule.proofs.Prelude.{after_event, AllLegal, AllReadOne, BLoad, bundle_load_law, cases_Bool, Claim}
use Rattle.vm_rule.proofs.Prelude.{claim_law, Clean, clean_law, Clear, clear_law, Dirty, dirty_law, Disown}
use Rattle.vm_rule.proofs.Prelude.{disown_law, Downgrade, downgrade_law, eqb, Event, Give, give_law, Hand, hand_law}
use Rattle.vm_rule.proofs.Prelude.{Install, install_law, Inv, Keeps, List, Load, load_law, lock_exclusive_law}
use Rattle.vm_rule.proofs.Prelude.{lock_exclusive_validates, lock_shared_law, lock_shared_validates}
use Rattle.vm_rule.proofs.Prelude.{lock_write_back_law, lock_write_back_validates, LockS, LockW, LockX, Look}
use Rattle.vm_rule.proofs.Prelude.{look_law, look_validates, Mark, mark_law, next_load_law, NLoad, OLoad, Own}
use Rattle.vm_rule.proofs.Prelude.{own_law, owner_load_law, Raise, raise_law, Read, read_fault_law, read_law, refl}
use Rattle.vm_rule.proofs.Prelude.{release_evicted_law, release_law, ReleaseE, RFail, run, State, Store, store_law}
use Rattle.vm_rule.proofs.Prelude.{Take, take_law, TLoad, translation_load_law, true, unlock_shared_law, UnlockS}
use Rattle.vm_rule.proofs.Prelude.{Unmark, unmark_law, Upgrade, upgrade_law, upgrade_validates, Validates, WFail}
use Rattle.vm_rule.proofs.Prelude.{World, world_after, world_run, Write, write_fault_law, write_law, ⊎_elim, ◌∙◌, ◌∷◌}
use Rattle.vm_rule.proofs.Prelude.{◌≡◌}

pub event_law : (w : World) (e : Event) → Keeps w e
event_law w (Look a p) i m = look_law w a p i m
event_law w (LockX a p expects) i m = lock_exclusive_law w a p expects i m
event_law w (LockS a p expects) i m = lock_shared_law w a p expects i m
event_law w (UnlockS a p) i m = unlock_shared_law w a p i m
event_law w (Mark a p expects) i m = mark_law w a p expects i m
event_law w (Unmark a p expects) i m = unmark_law w a p expects i m
event_law w (LockW a p expects) i m = lock_write_back_law w a p expects i m
event_law w (Upgrade a p expects) i m = upgrade_law w a p expects i m
event_law w (Release a p) i m = release_law w a p i m
event_law w (ReleaseE a p) i m = release_evicted_law w a p i m
event_law w (Downgrade a p) i m = downgrade_law w a p i m
event_law w (TLoad a p) i m = translation_load_law w a p i m
event_law w (Install a p f) i m = install_law w a p f i m
event_law w (Clear a p) i m = clear_law w a p i m
event_law w (Dirty a p) i m = dirty_law w a p i m
event_law w (Clean a p) i m = clean_law w a p i m
event_law w (Load a p n) i m = load_law w a p n i m
event_law w (Store a f n x) i m = store_law w a f n x i m
event_law w (BLoad a g) i m = bundle_load_law w a g i m
event_law w (Take a g expects mask) i m = take_law w a g expects mask i m
event_law w (Give a g mask) i m = give_law w a g mask i m
event_law w (Read a p) i m = read_law w a p i m
event_law w (RFail a p) i m = read_fault_law w a p i m
event_law w (Write a p) i m = write_law w a p i m
event_law w (WFail a p) i m = write_fault_law w a p i m
event_law w (Raise a p) i m = raise_law w a p i m
event_law w (NLoad a) i m = next_load_law w a i m
event_law w (Claim a x n) i m = claim_law w a x n i m
event_law w (Hand a) i m = hand_law w a i m
event_law w (Own a p) i m = own_law w a p i m
event_law w (Disown a p) i m = disown_law w a p i m
event_law w (OLoad a f) i m = owner_load_law w a f i m
event_law w (PBLoad a g) i m = spare_load_law w a g i m
event_law w (PTake a g expects mask) i m = take_numbers_law w a g expects mask i m
event_law w (PGive a g mask) i m = give_numbers_law w a g mask i m

event-one : (w : World) (e : Event) → Validates w e
event-one w (Look a p) t i m = look_validates w a p t i m
event-one w (LockX a p expects) t i m = lock_exclusive_validates w a p expects t i m
event-one w (LockS a p expects) t i m = lock_shared_validates w a p expects t i m
event-one w (LockW a p expects) t i m = lock_write_back_validates w a p expects t i m
event-one w (Upgrade a p expects) t i m = upgrade_validates w a p expects t i m
event-one w e t i m = tt

-- whether the blocks tell their words is settled at the start
same-tells : (c : State) (e : Event) → (after_event c e).tells ≡ c.tells
same-tells c (Take a g expects mask) = ⊎_elim (λ e. rw e refl) (λ e. rw e refl) (cases_Bool (eqb (c.bundles g) expects))
same-tells c (PTake a g expects mask) = ⊎_elim (λ e. rw e refl) (λ e. rw e refl) (cases_Bool (eqb (c.spares g) expects))
same-tells c e = refl

-- the bits of the free-number words are of pages, of so many
abbrev ArePages : ℕ → State → Type 0
ArePages pages c = (p : ℕ) → has_free_bit c.spares p ≡ true → p < pages

either-state : (P : State → Type 0) (b : Bool) (x y : State) → (b ≡ true → P x) → P y → P (if b then x else y)
either-state P true x y f g = f refl
either-state P false x y f g = g

-- they stay so: numbers that are taken clear bits, and those that are given are of pages
pub spares-inside : (c : State) (e : Event) → Legal c e → ArePages c.shape.pages c
    → ArePages c.shape.pages (after_event c e)
spares-inside c (Take a g expects mask) m inside =
    either-state (ArePages c.shape.pages) (eqb (c.bundles g) expects) _ c (λ _. inside) inside
spares-inside c (PTake a g expects mask) m inside =
    either-state (ArePages c.shape.pages) (eqb (c.spares g) expects) _ c
    (λ hit p set. ⊎_elim
    (λ gone. absurd (true≢false (sym set ∙ gone.2)))
    (λ still. inside p (sym still.1 ∙ set))
    (taken-free c.spares g expects mask p (eqb-true _ _ hit) m.among))
    inside
spares-inside c (PGive a g mask) m inside =
    λ p set. ⊎_elim (λ given. m.inside p given.0) (λ still. inside p (sym still.1 ∙ set)) (given-free c.spares g mask p)
spares-inside c e m inside = inside

pub run_law : (w : World) (es : List Event) → Inv w → AllLegal w.core es → Inv (world_run w es)
run_law w [] i m = i
run_law w (e ∷ es) i m = run_law (world_after w e) es (event_law w e i m.0) m.1

pub run-one : (w : World) (es : List Event) → w.core.tells ≡ true → Inv w → AllLegal w.core es → AllReadOne w es
run-one w [] t i m = tt
run-one w (e ∷ es) t i m =
    (event-one w e t i m.0, run-one (world_after w e) es (same-tells w.core e ∙ t) (event_law w e i m.0) m.1)

pub run-tells : (w : World) (es : List Event) → (world_run w es).core.tells ≡ w.core.tells
run-tells w [] = refl
run-tells w (e ∷ es) = run-tells (world_after w e) es ∙ same-tells w.core e

pub run-core : (w : World) (es : List Event) → (world_run w es).core ≡ run w.core es
run-core w [] = refl
run-core w (e ∷ es) = run-core (world_after w e) es
