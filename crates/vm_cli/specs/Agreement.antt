-- What any two endings of one command line have in common, and how valid input ends.
use Rattle.std.specs.Prelude.{ℕ, ◌≡◌, ◌≢◌, ◌⊎◌, ◌==◌, if◌then◌else◌, List, Option, Some, true}
use Rattle.vm_io.specs.Causes.{FailedGive, Rose}
use Rattle.vm_io.specs.Shown.{Shown}
use Rattle.vm_io.specs.declared.host.GiveFaults.{GiveFaults}
use Rattle.vm_device.specs.Whole.{RoseOrLast}
use Rattle.vm_words.specs.declared.Command.{Command}
use Rattle.vm_words.specs.declared.Command.TheVariants as commands
use Rattle.vm_words.specs.Commands.{IsCommand}
use Rattle.vm_file_serve.specs.from_vm_endings.declared_ends_Ends.{Ends}
use Rattle.vm_file_serve.specs.from_vm_endings.Commands.{IsSmooth, order_of}
use Rattle.vm_file_serve.specs.from_vm_endings.Endings.{IsServeLine, ProgramEnds}
use Rattle.vm_file_serve.specs.from_vm_endings.Outside.{Outside, Remains}
use Rattle.vm_file_serve.specs.from_vm_endings.Tests.{AllPass}

-- neither a host or devices that failed nor want of memory
pub record IsSettledStatus (status : ℕ) : Type 0 where
  pub read : status ≢ 2
  pub put : status ≢ 3
  pub memory : status ≢ 6

-- Whether the last flush of a run writes each page may hang on how its workers met, where failures are planned, and in a serve on its blocks: 7
-- counts as 0
abbrev pub as_done : ℕ → ℕ
as_done status = if status == 7 then 0 else status

-- What the words may ask for is the same outside: hosts show the same files; and where the words are a serve's, devices tell, and hold the same
pub record IsSameFor (words : List (List ℕ)) (outside other : Outside) (shown : Shown) : Type 0 where
  pub first : outside.shown ≡ Some shown
  pub second : other.shown ≡ Some shown
  pub tells : IsServeLine words → (outside.tells ≡ true) × (other.tells ≡ true)
  pub files : IsServeLine words → other.devices.files ≡ outside.devices.files

-- Every other ending of these words, where the same is outside, has this status too, where neither is 2, 3 or 6
abbrev pub AgreesWithOthers : List (List ℕ) → Outside → ℕ → Type 0
AgreesWithOthers words outside status =
    (shown : Shown) (other : Outside) (left : Remains) (new : Option Shown) (before after : Ends) (status' : ℕ)
    → IsSameFor words outside other shown → ProgramEnds words other left new before after status'
    → IsSettledStatus status → IsSettledStatus status' → as_done status ≡ as_done status'

-- of a serve: devices tell, and counted no fault
abbrev pub DevicesServe : Command → Outside → Remains → Type 0
DevicesServe (commands.Serve serve) outside left = (outside.tells ≡ true) × ¬ (RoseOrLast outside.devices.count left.devices.count)
DevicesServe _ outside left = Unit {0}

-- how a command ends that nothing stops: with 0, or want of memory; and a serve with 7, where a page could not be written or made to last
abbrev pub IsDoneStatus : Command → ℕ → Type 0
IsDoneStatus (commands.Serve serve) status = (status ≡ 0) ⊎ (status ≡ 6) ⊎ (status ≡ 7)
IsDoneStatus _ status = (status ≡ 0) ⊎ (status ≡ 6)

-- Valid words over valid files, of a run and a serve with frames enough for the height of the tree, and a host and devices that failed in nothing:
-- done, or memory was wanting
abbrev pub IsComplete : List (List ℕ) → Outside → Remains → (takes takes' : ℕ) → (gives gives' : GiveFaults) → ℕ → Type 0
IsComplete words outside left takes takes' gives gives' status =
    (shown : Shown) (command : Command) → outside.shown ≡ Some shown → IsCommand words command
    → DevicesServe command outside left → IsSmooth command outside → AllPass outside (order_of command)
    → ¬ (Rose takes takes') → ¬ (FailedGive gives gives') → IsDoneStatus command status
