-- A core keeps its shape.
use Rattle.std.proofs.Common.{[], ◌∙◌, ◌∷◌, ◌≡◌, Bool, false, if◌then◌else◌, List, refl, true}
use Rattle.vm_event.specs.Prelude.{after_event, run, State}
use Rattle.vm_event.specs.declared.event.Event.TheVariants.{BLoad, Claim, Clean, Clear, Dirty, Disown, Downgrade, Give}
use Rattle.vm_event.specs.declared.event.Event.TheVariants.{Hand, Install, Load, LockS, LockW, LockX, Look, Mark}
use Rattle.vm_event.specs.declared.event.Event.TheVariants.{NLoad, OLoad, Own, Raise, Read, Release, ReleaseE, RFail}
use Rattle.vm_event.specs.declared.event.Event.TheVariants.{PBLoad, PGive, PTake, Store, Take, TLoad, UnlockS, Unmark}
use Rattle.vm_event.specs.declared.event.Event.TheVariants.{Upgrade, WFail, Write}
use Rattle.vm_rule.specs.Prelude.{Event}

either_shape : (b : Bool) (c d : State) → c.shape ≡ d.shape → (if b then c else d).shape ≡ d.shape
either_shape true c d e = e
either_shape false c d e = refl

after_shape : (c : State) (e : Event) → (after_event c e).shape ≡ c.shape
after_shape c (Look a p) = refl
after_shape c (LockX a p expects) = refl
after_shape c (LockS a p expects) = refl
after_shape c (UnlockS a p) = refl
after_shape c (Mark a p expects) = refl
after_shape c (Unmark a p expects) = refl
after_shape c (LockW a p expects) = refl
after_shape c (Upgrade a p expects) = refl
after_shape c (Release a p) = refl
after_shape c (ReleaseE a p) = refl
after_shape c (Downgrade a p) = refl
after_shape c (TLoad a p) = refl
after_shape c (Install a p f) = refl
after_shape c (Clear a p) = refl
after_shape c (Dirty a p) = refl
after_shape c (Clean a p) = refl
after_shape c (Load a p i) = refl
after_shape c (Store a f i w) = refl
after_shape c (BLoad a g) = refl
after_shape c (Take a g expects mask) = either_shape _ _ c refl
after_shape c (Give a g mask) = refl
after_shape c (Read a p) = refl
after_shape c (RFail a p) = refl
after_shape c (Write a p) = refl
after_shape c (WFail a p) = refl
after_shape c (Raise a p) = refl
after_shape c (NLoad a) = refl
after_shape c (Claim a x n) = refl
after_shape c (Hand a) = refl
after_shape c (Own a p) = refl
after_shape c (Disown a p) = refl
after_shape c (OLoad a f) = refl
after_shape c (PBLoad a g) = refl
after_shape c (PTake a g expects mask) = either_shape _ _ c refl
after_shape c (PGive a g mask) = refl

pub run_shape : (c : State) (es : List Event) → (run c es).shape ≡ c.shape
run_shape c [] = refl
run_shape c (e ∷ es) = run_shape (after_event c e) es ∙ after_shape c e
