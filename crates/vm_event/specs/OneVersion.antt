-- A validated read saw one version.
use Rattle.std.specs.Prelude.{[], ◌∷◌, ◌≡◌, List, Option, Some, true, ℕ}
use Rattle.vm_event.specs.{declared.event.Event.Event, declared.event.Open.Open, declared.event.ReadIs.TheVariants.Same, History.World}
use Rattle.vm_event.specs.{History.world_after, Inv.Inv, Inv.LoadsAre, StateActs.finds, StateActs.left_of, Step.Legal, Words.version_of}
use Rattle.vm_event.specs.declared.event.Event.TheVariants.{BLoad, Claim, Clean, Clear, Dirty, Disown, Downgrade, Give}
use Rattle.vm_event.specs.declared.event.Event.TheVariants.{Hand, Install, Load, LockS, LockW, LockX, Look, Mark}
use Rattle.vm_event.specs.declared.event.Event.TheVariants.{NLoad, OLoad, Own, Raise, Read, Release, ReleaseE, RFail}
use Rattle.vm_event.specs.declared.event.Event.TheVariants.{Store, PBLoad, PGive, PTake, Take, TLoad, UnlockS, Unmark}
use Rattle.vm_event.specs.declared.event.Event.TheVariants.{Upgrade, WFail, Write}

-- the last version has the version of the actor's open read, and each word loaded through it is the word at its place there
pub record IsOneVersion (w : World) (a p : ℕ) (o : Open) : Type 0 where
  pub version : (w.histories p).last.version ≡ o.version
  pub words : LoadsAre (w.histories p).last.words (w.loads p a)

abbrev pub reads_at : World → ℕ → ℕ → Option Open
reads_at w a p = ((w.core.pages p).seats a).reading

-- and so it is of each page that stands under the head's word
abbrev pub IsOneOver : World → ℕ → ℕ → Open → Type 0
IsOneOver w a h o = (q : ℕ) → w.core.head q ≡ h → IsOneVersion w a q o

-- a look that leaves the open read in place
abbrev pub LookReadsOne : World → ℕ → ℕ → Type 0
LookReadsOne w a h = (o : Open) → reads_at w a h ≡ Some o → left_of (w.core.pages h) (reads_at w a h) ≡ Same → IsOneOver w a h o

-- a taken lock that expected the open read's version
abbrev pub LockReadsOne : World → ℕ → ℕ → ℕ → Type 0
LockReadsOne w a h expects =
    (o : Open) → reads_at w a h ≡ Some o → finds (w.core.pages h) expects ≡ true → o.version ≡ version_of expects → IsOneOver w a h o

-- where the event validates an open read, that read is the last version
abbrev pub ReadsOne : World → Event → Type 0
ReadsOne w (Look a p) = LookReadsOne w a p
ReadsOne w (LockX a p expects) = LockReadsOne w a p expects
ReadsOne w (LockS a p expects) = LockReadsOne w a p expects
ReadsOne w (UnlockS a p) = Unit {0}
ReadsOne w (Mark a p expects) = Unit {0}
ReadsOne w (Unmark a p expects) = Unit {0}
ReadsOne w (LockW a p expects) = LockReadsOne w a p expects
ReadsOne w (Upgrade a p expects) = LockReadsOne w a p expects
ReadsOne w (Release a p) = Unit {0}
ReadsOne w (ReleaseE a p) = Unit {0}
ReadsOne w (Downgrade a p) = Unit {0}
ReadsOne w (TLoad a p) = Unit {0}
ReadsOne w (Install a p f) = Unit {0}
ReadsOne w (Clear a p) = Unit {0}
ReadsOne w (Dirty a p) = Unit {0}
ReadsOne w (Clean a p) = Unit {0}
ReadsOne w (Load a p i) = Unit {0}
ReadsOne w (Store a f i x) = Unit {0}
ReadsOne w (BLoad a g) = Unit {0}
ReadsOne w (Take a g expects mask) = Unit {0}
ReadsOne w (Give a g mask) = Unit {0}
ReadsOne w (Read a p) = Unit {0}
ReadsOne w (RFail a p) = Unit {0}
ReadsOne w (Write a p) = Unit {0}
ReadsOne w (WFail a p) = Unit {0}
ReadsOne w (Raise a p) = Unit {0}
ReadsOne w (NLoad a) = Unit {0}
ReadsOne w (Claim a x n) = Unit {0}
ReadsOne w (Hand a) = Unit {0}
ReadsOne w (Own a p) = Unit {0}
ReadsOne w (Disown a p) = Unit {0}
ReadsOne w (OLoad a f) = Unit {0}
ReadsOne w (PBLoad a g) = Unit {0}
ReadsOne w (PTake a g expects mask) = Unit {0}
ReadsOne w (PGive a g mask) = Unit {0}

-- where the blocks tell their words, a legal event validates only what is one version
abbrev pub Validates : World → Event → Type 0
Validates w e = w.core.tells ≡ true → Inv w → Legal w.core e → ReadsOne w e

-- each event of the list validates only what is one version
abbrev pub AllReadOne : World → List Event → Type 0
AllReadOne w [] = Unit {0}
AllReadOne w (e ∷ es) = ReadsOne w e × AllReadOne (world_after w e) es
