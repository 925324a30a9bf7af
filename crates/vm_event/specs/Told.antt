-- What the invariant tells, said in full: each frame stands in one place, the device holds what is not in a frame alone, the fault words.
use Rattle.std.specs.Prelude.{◌<◌, ◌≡◌, ◌≢◌, ◌≤◌, false, Some, true, ℕ}
use Rattle.vm_event.specs.{declared.event.Mapping.Mapping, FrameActs.stands_in, History.History, History.World}
use Rattle.vm_event.specs.{Inv.FramePlace, State.Page, State.State}
use Rattle.vm_event.specs.Inv.FramePlace.{Free, Held, Mapped, Nowhere}
use Rattle.vm_event.specs.Words.{EVICTED, has_free_bit, LOCKED}

-- the frame stands in this place
abbrev pub StandsAt : State → ℕ → FramePlace → Type 0
StandsAt c f Nowhere = ⊥
StandsAt c f Free = has_free_bit c.bundles f ≡ true
StandsAt c f (Held a) = (a < c.shape.actors) × (c.held a f ≡ true)
StandsAt c f (Mapped p) = (p < c.shape.pages) × (stands_in (c.pages p).trans f ≡ true)

pub record StandsOnce (c : State) (f : ℕ) : Type 0 where
  pub place : FramePlace
  pub stands : StandsAt c f place
  pub only : (y : FramePlace) → StandsAt c f y → y ≡ place

-- each frame stands in exactly one set bundle bit, one actor's held frames or one page's translation; nothing names a frame past the last
pub record FrameOnce (c : State) : Type 0 where
  pub each : (f : ℕ) → f < c.shape.frames → StandsOnce c f
  pub past : (f : ℕ) → c.shape.frames ≤ f → (x : FramePlace) → StandsAt c f x → ⊥

-- an evicted page, and a resident clean one that is not locked, has its last words in its block
pub record DeviceHas (r : Page) (h : History) : Type 0 where
  pub evicted : r.state ≡ EVICTED → r.block ≡ h.last.words
  pub clean : (m : Mapping) → r.trans ≡ Some m → m.dirty ≡ false → r.state ≢ LOCKED → r.block ≡ h.last.words

-- so it is with each page
abbrev pub DeviceHolds : World → Type 0
DeviceHolds w = (p : ℕ) → DeviceHas (w.core.pages p) (w.histories p)

-- a page that is neither locked nor under write-back has its block's count in its fault word
abbrev pub FaultsTold : State → Type 0
FaultsTold c =
    (p : ℕ) → (c.pages p).state ≢ LOCKED → ((a : ℕ) → ((c.pages p).seats a).writing ≡ false) → (c.pages p).fault ≡ (c.pages p).count

-- all that the invariant tells; what is said of blocks holds where they tell their words
pub record Told (w : World) : Type 0 where
  pub frames : FrameOnce w.core
  pub device : w.core.tells ≡ true → DeviceHolds w
  pub faults : FaultsTold w.core
