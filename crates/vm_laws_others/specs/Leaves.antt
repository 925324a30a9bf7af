-- What an event of one actor leaves of all that the other actors know and hold.
use Rattle.std.specs.Prelude.{◌<◌, ◌||◌, ◌≡◌, ◌≢◌, ◌≤◌, Bool, false, None, Option, Some, true, ℕ}
use Rattle.vm_event.specs.Prelude.{EVICTED, frame_of, Inv, Legal, LOCKED, MAX_COUNT, Page, World, world_after}
use Rattle.vm_event.specs.{declared.event.Event.Event, declared.event.Mapping.Mapping, declared.event.Seat.Seat}
use Rattle.vm_event.specs.declared.event.Event.TheVariants.{BLoad, Claim, Clean, Clear, Dirty, Disown, Downgrade, Give}
use Rattle.vm_event.specs.declared.event.Event.TheVariants.{Hand, Install, Load, LockS, LockW, LockX, Look, Mark}
use Rattle.vm_event.specs.declared.event.Event.TheVariants.{NLoad, OLoad, Own, Raise, Read, Release, ReleaseE, RFail}
use Rattle.vm_event.specs.declared.event.Event.TheVariants.{Store, PBLoad, PGive, PTake, Take, TLoad, UnlockS, Unmark}
use Rattle.vm_event.specs.declared.event.Event.TheVariants.{Upgrade, WFail, Write}

-- the actor of the event
abbrev pub actor_of : Event → ℕ
actor_of (Look a p) = a
actor_of (LockX a p expects) = a
actor_of (LockS a p expects) = a
actor_of (UnlockS a p) = a
actor_of (Mark a p expects) = a
actor_of (Unmark a p expects) = a
actor_of (LockW a p expects) = a
actor_of (Upgrade a p expects) = a
actor_of (Release a p) = a
actor_of (ReleaseE a p) = a
actor_of (Downgrade a p) = a
actor_of (TLoad a p) = a
actor_of (Install a p f) = a
actor_of (Clear a p) = a
actor_of (Dirty a p) = a
actor_of (Clean a p) = a
actor_of (Load a p i) = a
actor_of (Store a f i w) = a
actor_of (BLoad a g) = a
actor_of (Take a g expects mask) = a
actor_of (Give a g mask) = a
actor_of (Read a p) = a
actor_of (RFail a p) = a
actor_of (Write a p) = a
actor_of (WFail a p) = a
actor_of (Raise a p) = a
actor_of (NLoad a) = a
actor_of (Claim a x n) = a
actor_of (Hand a) = a
actor_of (Own a p) = a
actor_of (Disown a p) = a
actor_of (OLoad a f) = a
actor_of (PBLoad a g) = a
actor_of (PTake a g expects mask) = a
actor_of (PGive a g mask) = a

-- the page stands in a frame, dirty
abbrev pub stands_dirty : Option Mapping → Bool
stands_dirty None = false
stands_dirty (Some m) = m.dirty

-- a page moves on: its version never falls; a page that can be read at the same version could be read before, in the
-- same frame, and is dirty
-- only if it was; and a page that is evicted at the same version was evicted before
pub record PageMoves (r r' : Page) : Type 0 where
  pub version : r.version ≤ r'.version
  pub still : r'.version ≡ r.version → r'.state ≢ LOCKED → r'.state ≢ EVICTED →
      (r.state ≢ LOCKED) × (r.state ≢ EVICTED) × (frame_of r'.trans ≡ frame_of r.trans)
  pub cleaner : r'.version ≡ r.version → r'.state ≢ LOCKED → r'.state ≢ EVICTED → stands_dirty r'.trans ≡ true → stands_dirty r.trans ≡ true
  pub gone : r'.version ≡ r.version → r'.state ≡ EVICTED → r.state ≡ EVICTED

-- the page's device and its counts move on: the fault word never falls; a count that is a word stays one and never falls, and the fault
-- word stays within it
pub record CountsMove (r r' : Page) : Type 0 where
  pub fault : r.fault ≤ r.count → r.fault ≤ r'.fault
  pub count : r.count ≤ MAX_COUNT → r.count ≤ r'.count
  pub within : r.count ≤ MAX_COUNT → r.fault ≤ r.count → r'.fault ≤ r'.count
  pub inside : r.count ≤ MAX_COUNT → r'.count ≤ MAX_COUNT

-- a page is left as a seat that has it locked knows it: all of it where the seat may call the device, its frame where it has a share
pub record Untouched (seat : Seat) (r r' : Page) : Type 0 where
  pub calls : (seat.exclusive || seat.writing) ≡ true → (r'.trans ≡ r.trans) × (r'.fault ≡ r.fault)
      × (r'.block ≡ r.block) × (r'.count ≡ r.count)
  pub shares : 1 ≤ seat.shares → frame_of r'.trans ≡ frame_of r.trans

-- what the actor b has, and what it knows of what it has
pub record LeavesActor (b : ℕ) (w w' : World) : Type 0 where
  pub seats : (p : ℕ) → (w'.core.pages p).seats b ≡ (w.core.pages p).seats b
  pub loads : (p : ℕ) → w'.loads p b ≡ w.loads p b
  pub held : (f : ℕ) → w'.core.held b f ≡ w.core.held b f
  pub untouched : (p : ℕ) → Untouched ((w.core.pages p).seats b) (w.core.pages p) (w'.core.pages p)
  -- the words of a frame that it holds
  pub words : (f : ℕ) → w.core.held b f ≡ true → w'.core.words f ≡ w.core.words f
  -- the owner word of the frame of a page whose device it may call
  pub owners :
      (p : ℕ) (m : Mapping) → (((w.core.pages p).seats b).exclusive || ((w.core.pages p).seats b).writing) ≡ true
      → (w.core.pages p).trans ≡ Some m
      → w'.core.owners m.frame ≡ w.core.owners m.frame
  -- the draft and the versions of a page that it holds exclusively, and the last version of one that it has a share of
  pub owned : (p : ℕ) → ((w.core.pages p).seats b).exclusive ≡ true → w'.histories p ≡ w.histories p
  pub shared : (p : ℕ) → 1 ≤ ((w.core.pages p).seats b).shares → (w'.histories p).last ≡ (w.histories p).last
  -- the next word, where it names a page that it holds exclusively
  pub next : ((w.core.pages w.core.next).seats b).exclusive ≡ true → w'.core.next ≡ w.core.next

-- what an event of the actor a leaves
pub record Leaves (a : ℕ) (w w' : World) : Type 0 where
  pub shape : w'.core.shape ≡ w.core.shape
  pub tells : w'.core.tells ≡ w.core.tells
  pub pages : (p : ℕ) → PageMoves (w.core.pages p) (w'.core.pages p)
  pub counts : (p : ℕ) → CountsMove (w.core.pages p) (w'.core.pages p)
  pub next : w.core.next ≤ w'.core.next
  -- the shares of a page count the core's own actors alone, so of a number past them nothing is said
  pub others : (b : ℕ) → b < w.core.shape.actors → b ≢ a → LeavesActor b w w'
  -- a page's last version changes only where its version rises
  pub last : (p : ℕ) → (w'.core.pages p).version ≡ (w.core.pages p).version → (w'.histories p).last ≡ (w.histories p).last

-- a legal event leaves this
abbrev pub LeavesOthers : World → Event → Type 0
LeavesOthers w e = Inv w → Legal w.core e → Leaves (actor_of e) w (world_after w e)
