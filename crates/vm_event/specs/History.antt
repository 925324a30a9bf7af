-- The versions of each page, and the loads of each open read: read from the events.
use Rattle.std.specs.Prelude.{[], ◌&&◌, ◌++◌, ◌+◌, ◌∷◌, Bool, if◌then◌else◌, List, None, Option, slice_set, Some, ℕ}
use Rattle.vm_event.specs.{declared.event.Event.Event, declared.event.ReadIs.ReadIs, Fn.upd, Fn.upd_over, State.Page, State.State, StateActs.finds}
use Rattle.vm_event.specs.{StateActs.left_of, Step.after_event, Step.word_at}
use Rattle.vm_event.specs.declared.event.Event.TheVariants.{BLoad, Claim, Clean, Clear, Dirty, Disown, Downgrade, Give}
use Rattle.vm_event.specs.declared.event.Event.TheVariants.{Hand, Install, Load, LockS, LockW, LockX, Look, Mark}
use Rattle.vm_event.specs.declared.event.Event.TheVariants.{NLoad, OLoad, Own, Raise, Read, Release, ReleaseE, RFail}
use Rattle.vm_event.specs.declared.event.Event.TheVariants.{Store, PBLoad, PGive, PTake, Take, TLoad, UnlockS, Unmark}
use Rattle.vm_event.specs.declared.event.Event.TheVariants.{Upgrade, WFail, Write}
use Rattle.vm_event.specs.declared.event.ReadIs.TheVariants.{Closed, Moved, Opened, Same}
use Rattle.vm_event.specs.FrameActs.{load_frame, open_frame, stands_in}

pub record Version : Type 0 where
  pub version : ℕ
  pub words : List ℕ

-- the versions of a page, of which `last` is the last; the draft counts while the page is locked exclusively
pub record History : Type 0 where
  pub older : List Version
  pub last : Version
  pub draft : List ℕ

abbrev pub past : History → List Version
past h = h.older ++ h.last ∷ []

-- a draft is opened, equal to the last words
abbrev pub drafted : History → History
drafted h = record h { draft = h.last.words }

-- the draft becomes the next version
abbrev pub appended : History → History
appended h =
    record { older = past h; last = record { version = h.last.version + 1; words = h.draft }; draft = h.draft }

-- the actor holds the page exclusively, and it stands in this frame
abbrev pub writes_to : Page → ℕ → ℕ → Bool
writes_to r a f = (r.seats a).exclusive && stands_in r.trans f

-- a store by the holder goes to the draft
abbrev pub stored : Page → History → ℕ → ℕ → ℕ → ℕ → History
stored r h a f i w = if writes_to r a f then record h { draft = slice_set h.draft i w } else h

-- the core with the history of each page and, by page and actor, the loads of the open read
pub record World : Type 0 where
  pub core : State
  pub histories : ℕ → History
  pub loads : ℕ → ℕ → List (ℕ × ℕ)

-- a taken exclusive lock opens a draft of each page under the word
abbrev pub lock_history : World → ℕ → ℕ → ℕ → History
lock_history w h expects =
    upd_over w.core.head h w.histories
    (λ q. if finds (w.core.pages q) expects then drafted (w.histories q) else w.histories q)

-- a version of a group is its pages' versions of one number
abbrev pub release_history : World → ℕ → ℕ → History
release_history w h = upd_over w.core.head h w.histories (λ q. appended (w.histories q))

-- the versions and drafts after the event
abbrev pub histories_after : World → Event → ℕ → History
histories_after w (Look a p) = w.histories
histories_after w (LockX a p expects) = lock_history w p expects
histories_after w (LockS a p expects) = w.histories
histories_after w (UnlockS a p) = w.histories
histories_after w (Mark a p expects) = w.histories
histories_after w (Unmark a p expects) = w.histories
histories_after w (LockW a p expects) = w.histories
histories_after w (Upgrade a p expects) = lock_history w p expects
histories_after w (Release a p) = release_history w p
histories_after w (ReleaseE a p) = release_history w p
histories_after w (Downgrade a p) = release_history w p
histories_after w (TLoad a p) = w.histories
histories_after w (Install a p f) = w.histories
histories_after w (Clear a p) = w.histories
histories_after w (Dirty a p) = w.histories
histories_after w (Clean a p) = w.histories
histories_after w (Load a p i) = w.histories
histories_after w (Store a f i x) = λ p. stored (w.core.pages p) (w.histories p) a f i x
histories_after w (BLoad a g) = w.histories
histories_after w (Take a g expects mask) = w.histories
histories_after w (Give a g mask) = w.histories
histories_after w (Read a p) = w.histories
histories_after w (RFail a p) = w.histories
histories_after w (Write a p) = w.histories
histories_after w (WFail a p) = w.histories
histories_after w (Raise a p) = w.histories
histories_after w (NLoad a) = w.histories
histories_after w (Claim a x n) = w.histories
histories_after w (Hand a) = w.histories
histories_after w (Own a p) = w.histories
histories_after w (Disown a p) = w.histories
histories_after w (OLoad a f) = w.histories
histories_after w (PBLoad a g) = w.histories
histories_after w (PTake a g expects mask) = w.histories
histories_after w (PGive a g mask) = w.histories

-- ---- loads

-- a look keeps the loads of an open read that it leaves in place
abbrev pub kept_loads : ReadIs → List (ℕ × ℕ) → List (ℕ × ℕ)
kept_loads Same l = l
kept_loads Opened l = []
kept_loads Moved l = []
kept_loads Closed l = []

abbrev pub look_loads : World → ℕ → ℕ → ℕ → ℕ → List (ℕ × ℕ)
look_loads w a h =
    upd_over w.core.head h w.loads
    (λ q. upd (w.loads q) a (kept_loads (left_of (w.core.pages q) ((w.core.pages q).seats a).reading) (w.loads q a)))

-- a taken lock closes the open read
abbrev pub lock_loads : World → ℕ → ℕ → ℕ → ℕ → ℕ → List (ℕ × ℕ)
lock_loads w a h expects =
    upd_over w.core.head h w.loads
    (λ q. upd (w.loads q) a (if finds (w.core.pages q) expects then [] else w.loads q a))

-- one load more, where the open read has a frame
abbrev pub loads_more : Option ℕ → List (ℕ × ℕ) → ℕ → ℕ → List (ℕ × ℕ)
loads_more None l i x = l
loads_more (Some f) l i x = l ++ (i, x) ∷ []

-- a load is added to the loads of the actor's open read of the page, also where the actor reads under a lock of its own
abbrev pub load_loads : World → ℕ → ℕ → ℕ → ℕ → ℕ → List (ℕ × ℕ)
load_loads w a p i =
    upd w.loads p (upd (w.loads p) a
    (loads_more (open_frame ((w.core.pages p).seats a).reading) (w.loads p a) i
    (word_at w.core.words (load_frame (w.core.pages p) a) i)))

-- the loads of each open read after the event
abbrev pub loads_after : World → Event → ℕ → ℕ → List (ℕ × ℕ)
loads_after w (Look a p) = look_loads w a p
loads_after w (LockX a p expects) = lock_loads w a p expects
loads_after w (LockS a p expects) = lock_loads w a p expects
loads_after w (UnlockS a p) = w.loads
loads_after w (Mark a p expects) = w.loads
loads_after w (Unmark a p expects) = w.loads
loads_after w (LockW a p expects) = lock_loads w a p expects
loads_after w (Upgrade a p expects) = lock_loads w a p expects
loads_after w (Release a p) = w.loads
loads_after w (ReleaseE a p) = w.loads
loads_after w (Downgrade a p) = w.loads
loads_after w (TLoad a p) = w.loads
loads_after w (Install a p f) = w.loads
loads_after w (Clear a p) = w.loads
loads_after w (Dirty a p) = w.loads
loads_after w (Clean a p) = w.loads
loads_after w (Load a p i) = load_loads w a p i
loads_after w (Store a f i x) = w.loads
loads_after w (BLoad a g) = w.loads
loads_after w (Take a g expects mask) = w.loads
loads_after w (Give a g mask) = w.loads
loads_after w (Read a p) = w.loads
loads_after w (RFail a p) = w.loads
loads_after w (Write a p) = w.loads
loads_after w (WFail a p) = w.loads
loads_after w (Raise a p) = w.loads
loads_after w (NLoad a) = w.loads
loads_after w (Claim a x n) = w.loads
loads_after w (Hand a) = w.loads
loads_after w (Own a p) = w.loads
loads_after w (Disown a p) = w.loads
loads_after w (OLoad a f) = w.loads
loads_after w (PBLoad a g) = w.loads
loads_after w (PTake a g expects mask) = w.loads
loads_after w (PGive a g mask) = w.loads

-- ---- the world

-- the world after an event, and after a list of them
abbrev pub world_after : World → Event → World
world_after w e = record { core = after_event w.core e; histories = histories_after w e; loads = loads_after w e }

abbrev pub world_run : World → List Event → World
world_run w [] = w
world_run w (e ∷ es) = world_run (world_after w e) es
