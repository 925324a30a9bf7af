-- How the program ends: each way with its cause, with what goes out, with what is kept, with what remains outside, and with its status.
use Rattle.std.specs.Prelude.{[], ◌++◌, ◌∷◌, ◌≡◌, ◌⊎◌, codes, Err, List, Ok, Option, Result, true, ℕ}
use Rattle.vm_io.specs.{Causes.Rose, Shown.Shown}
use Rattle.vm_device.specs.Whole.{RoseOrLast}
use Rattle.vm_words.specs.Commands.{IsCommand, IsNoCommand, WhyRefused}
use Rattle.vm_words.specs.declared.Command.{Command}
use Rattle.vm_words.specs.declared.Command.TheVariants as commands
use Rattle.vm_words.specs.declared.Serve.{Serve}
use Rattle.vm_endings.specs.{declared.ends.Ends.Ends, declared.stop.Stop.Stop, declared.undone.Undone.TheVariants.Memory}
use Rattle.vm_endings.specs.{declared.undone.Undone.TheVariants.Stopped, declared.undone.Undone.Undone, Stops.status_of, Stops.stop_line}
use Rattle.vm_endings.specs.Outside.{ChangesJust, IsBackHome, KeepsFiles, Outside, Remains}
use Rattle.vm_endings.specs.{Tests.AllPass, Tests.StopsAt}
use Rattle.vm_endings.specs.Commands.{Cut, order_of, ToldCommand}
use Rattle.vm_endings.specs.Deliveries.{Content, IsDelivered, line, WentOut}

abbrev pub usage_text : List ℕ
usage_text = codes "usage: vmcache run, make, check, churn, replay, migrate, serve, make-bytes" ++ 10 ∷ []

-- what a command did that nothing stopped
pub data Performs (command : Command) (outside : Outside) (left : Remains) (content : Content) (before after : Ends) : Type 0 where
  told : ToldCommand command outside left content before after → content.status ≡ 0
      → Performs command outside left content before after
  cut : Cut command outside left content before after → Performs command outside left content before after

-- How a command may end: all its tests passed, and what it gives went out, whole or in part; the first of its tests that failed stopped it, and
-- devices hold what they held; or memory was wanting, and nothing was written or said. `left` is what remains outside
pub data CommandEnds (command : Command) (outside : Outside) (left : Remains) (new : Option Shown) (before after : Ends)
    (status : ℕ) : Type 0 where
  done : (content : Content) → AllPass outside (order_of command) → Performs command outside left content before after
      → IsDelivered content outside.shown new status → CommandEnds command outside left new before after status
  stopped : (stop : Stop) → StopsAt outside left (order_of command) stop → after ≡ before → KeepsFiles outside left
      → IsDelivered (line (stop_line stop) (status_of stop)) outside.shown new status
      → CommandEnds command outside left new before after status
  unable : new ≡ outside.shown → after ≡ before → status ≡ 6 → CommandEnds command outside left new before after status

-- How the program may end on these words
pub data ProgramEnds (words : List (List ℕ)) (outside : Outside) (left : Remains) (new : Option Shown) (before after : Ends)
    (status : ℕ) : Type 0 where
  usage : IsNoCommand words → WhyRefused words → after ≡ before → IsDelivered (line usage_text 1) outside.shown new status
      → ProgramEnds words outside left new before after status
  command : (command : Command) → IsCommand words command → CommandEnds command outside left new before after status
      → ProgramEnds words outside left new before after status
  exhausted : new ≡ outside.shown → after ≡ before → status ≡ 6 → ProgramEnds words outside left new before after status

-- What status 0 says of the words: what they ask for was done, and all that it gives went out
pub record IsHeadline (words : List (List ℕ)) (outside : Outside) (left : Remains) (new : Option Shown) (before after : Ends) : Type 0 where
  pub command : Command
  pub named : IsCommand words command
  pub content : Content
  pub told : ToldCommand command outside left content before after
  pub out : WentOut content outside.shown new

-- what a command answers before anything goes out: what it gives, or why it stopped
abbrev pub AnswersCommand : {V : Type 0} → (V → Content) → Command → Outside → Remains → Ends → Ends → Result V (Undone Stop) → Type 0
AnswersCommand view asked outside left before after (Ok given) =
    AllPass outside (order_of asked) × Performs asked outside left (view given) before after
AnswersCommand view asked outside left before after (Err Memory) = after ≡ before
AnswersCommand view asked outside left before after (Err (Stopped stop)) = StopsAt outside left (order_of asked) stop × (after ≡ before)

-- a stop with status 2 comes only where this is so
abbrev pub HasUnreadCause : {V : Type 0} → Type 0 → Result V (Undone Stop) → Type 0
HasUnreadCause cause (Ok given) = Unit {0}
HasUnreadCause cause (Err Memory) = Unit {0}
HasUnreadCause cause (Err (Stopped stop)) = status_of stop ≡ 2 → cause

-- it comes only where a `take` of the host failed
abbrev pub HasReadCause : {V : Type 0} → ℕ → ℕ → Result V (Undone Stop) → Type 0
HasReadCause before now result = HasUnreadCause (Rose before now) result

-- a `take` of the host failed; or, of a serve, devices counted a fault, or their count stands at its last value
abbrev pub UnreadCause : Command → (before now : ℕ) → Outside → Remains → Type 0
UnreadCause (commands.Serve serve) before now outside left = Rose before now ⊎ RoseOrLast outside.devices.count left.devices.count
UnreadCause _ before now outside left = Rose before now

-- the words are a serve's
abbrev pub IsServeLine : List (List ℕ) → Type 0
IsServeLine words = (serve : Serve) × IsCommand words (commands.Serve serve)

-- What a command does to devices: a serve changes words of its own file's pages alone, where devices tell; another command changes nothing
abbrev pub ChangesDevices : Command → Outside → Remains → Type 0
ChangesDevices (commands.Serve serve) outside left =
    outside.tells ≡ true → ChangesJust outside.devices.files left.devices.files serve.file.now
ChangesDevices _ outside left = left.devices ≡ outside.devices

-- What remains in devices behind what a command answers before anything goes out: each block that was taken out is home again, and where the command
-- stopped the files are as they were. Where memory was wanting blocks may be out
abbrev pub LeavesDevices : {V : Type 0} → Outside → Remains → Result V (Undone Stop) → Type 0
LeavesDevices outside left (Ok given) = IsBackHome outside left
LeavesDevices outside left (Err Memory) = Unit {0}
LeavesDevices outside left (Err (Stopped stop)) = IsBackHome outside left × KeepsFiles outside left

-- what words do to devices: those that are no serve's change nothing, and a serve's change words of its own file's pages alone
pub record UsesDevices (words : List (List ℕ)) (outside : Outside) (left : Remains) : Type 0 where
  pub idle : ¬ (IsServeLine words) → left.devices ≡ outside.devices
  pub own : (serve : Serve) → IsCommand words (commands.Serve serve) → ChangesDevices (commands.Serve serve) outside left

-- a `take` of the host failed; or, where the words are a serve's, devices counted a fault, or their count stands at its last value
abbrev pub UnreadBy : List (List ℕ) → (before now : ℕ) → Outside → Remains → Type 0
UnreadBy words before now outside left = Rose before now ⊎ (IsServeLine words × RoseOrLast outside.devices.count left.devices.count)
