-- What a command finds outside of itself, and what remains there behind it: what the host shows, and the page files that devices hold.
use Rattle.std.specs.Prelude.{[], ◌≡◌, ◌≢◌, Bool, false, List, None, Option, true, ℕ}
use Rattle.vm_io.specs.Shown.{Shown}
use Rattle.vm_device.specs.Devices.{DeviceState, size_of, StoredFile, words_at}

pub record Outside : Type 0 where
  -- what the host shows, where it tells
  pub shown : Option Shown
  -- whether devices tell their files
  pub tells : Bool
  -- what devices hold and have counted
  pub devices : DeviceState

pub record Remains : Type 0 where
  -- the name of the file that the host could not read last
  pub unread : List ℕ
  -- what devices hold and have counted then
  pub devices : DeviceState

-- the same, but that the host shows this
abbrev pub with_shown : Outside → Option Shown → Outside
with_shown outside shown = record outside { shown = shown }

-- the same, but that this is the file that the host could not read last
abbrev pub with_unread : Remains → List ℕ → Remains
with_unread left unread = record left { unread = unread }

abbrev pub outside_of : Option Shown → Bool → DeviceState → Outside
outside_of shown tells devices = record { shown = shown; tells = tells; devices = devices }

abbrev pub remains_of : List ℕ → DeviceState → Remains
remains_of unread devices = record { unread = unread; devices = devices }

-- A host that shows nothing and devices that tell and have counted nothing, for tests that are of no file: they pass and fail here as anywhere
abbrev pub no_devices : DeviceState
no_devices = record { answered = None; outs = []; count = 0; files = [] }

abbrev pub nowhere : Outside
nowhere = outside_of None false no_devices

abbrev pub nothing_left : Remains
nothing_left = remains_of [] no_devices

-- the files that devices hold are as they were, where they tell them
abbrev pub KeepsFiles : Outside → Remains → Type 0
KeepsFiles outside left = outside.tells ≡ true → left.devices.files ≡ outside.devices.files

-- each block that was taken out is home again
abbrev pub IsBackHome : Outside → Remains → Type 0
IsBackHome outside left = left.devices.outs ≡ outside.devices.outs

-- no file has another length, and no page of another file than the one with this name has other words
pub record ChangesJust (old new : List StoredFile) (name : List ℕ) : Type 0 where
  pub sizes : (other : List ℕ) → size_of new other ≡ size_of old other
  pub others : (other : List ℕ) (p : ℕ) → other ≢ name → words_at new other p ≡ words_at old other p
