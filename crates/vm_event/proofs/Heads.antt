-- No event changes the heads.
use Rattle.std.proofs.Common.{[], ⊎_elim, ◌∙◌, ◌∷◌, ◌≡◌, eqb, List, refl}
use Rattle.std.proofs.lemmas.Bool.{cases_Bool}
use Rattle.vm_event.specs.Prelude.{after_event, run, State, World, world_after, world_run}
use Rattle.vm_event.specs.declared.event.Event.{Event}
use Rattle.vm_event.specs.declared.event.Event.TheVariants.{BLoad, Claim, Clean, Clear, Dirty, Disown, Downgrade, Give}
use Rattle.vm_event.specs.declared.event.Event.TheVariants.{Hand, Install, Load, LockS, LockW, LockX, Look, Mark}
use Rattle.vm_event.specs.declared.event.Event.TheVariants.{NLoad, OLoad, Own, Raise, Read, Release, ReleaseE, RFail}
use Rattle.vm_event.specs.declared.event.Event.TheVariants.{Store, PBLoad, PGive, PTake, Take, TLoad, UnlockS, Unmark}
use Rattle.vm_event.specs.declared.event.Event.TheVariants.{Upgrade, WFail, Write}

pub event-head : (c : State) (e : Event) → (after_event c e).head ≡ c.head
event-head c (Look a p) = refl
event-head c (LockX a p expects) = refl
event-head c (LockS a p expects) = refl
event-head c (UnlockS a p) = refl
event-head c (Mark a p expects) = refl
event-head c (Unmark a p expects) = refl
event-head c (LockW a p expects) = refl
event-head c (Upgrade a p expects) = refl
event-head c (Release a p) = refl
event-head c (ReleaseE a p) = refl
event-head c (Downgrade a p) = refl
event-head c (TLoad a p) = refl
event-head c (Install a p f) = refl
event-head c (Clear a p) = refl
event-head c (Dirty a p) = refl
event-head c (Clean a p) = refl
event-head c (Load a p i) = refl
event-head c (Store a f i w) = refl
event-head c (BLoad a g) = refl
event-head c (Take a g expects mask) = ⊎_elim (λ e. rw e refl) (λ e. rw e refl) (cases_Bool (eqb (c.bundles g) expects))
event-head c (Give a g mask) = refl
event-head c (Read a p) = refl
event-head c (RFail a p) = refl
event-head c (Write a p) = refl
event-head c (WFail a p) = refl
event-head c (Raise a p) = refl
event-head c (NLoad a) = refl
event-head c (Claim a x n) = refl
event-head c (Hand a) = refl
event-head c (Own a p) = refl
event-head c (Disown a p) = refl
event-head c (OLoad a f) = refl
event-head c (PBLoad a g) = refl
event-head c (PTake a g expects mask) = ⊎_elim (λ e. rw e refl) (λ e. rw e refl) (cases_Bool (eqb (c.spares g) expects))
event-head c (PGive a g mask) = refl

-- nor does a list of them
pub run-head : (c : State) (es : List Event) → (run c es).head ≡ c.head
run-head c [] = refl
run-head c (e ∷ es) = run-head (after_event c e) es ∙ event-head c e

pub world-head : (w : World) (es : List Event) → (world_run w es).core.head ≡ w.core.head
world-head w [] = refl
world-head w (e ∷ es) = world-head (world_after w e) es ∙ event-head w.core e
