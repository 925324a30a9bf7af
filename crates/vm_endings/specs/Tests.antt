-- What a command asks before it does anything, in the order in which it asks: the first test that fails stops it.
use Rattle.std.specs.List.{AllByRecursion}
use Rattle.std.specs.Prelude.{◌<◌, ◌∷◌, ◌≡◌, ◌≤◌, Bool, false, length, List, true, ℕ}
use Rattle.vm_device.specs.Whole.{RoseOrLast}
use Rattle.vm_build.specs.Build.{needed}
use Rattle.vm_endings.specs.{declared.stop.Lines.TheVariants.Events, declared.stop.Lines.TheVariants.Script}
use Rattle.vm_endings.specs.{declared.stop.Quantity.Quantity}
use Rattle.vm_endings.specs.declared.stop.Quantity.TheVariants.{Frames}
use Rattle.vm_endings.specs.{declared.stop.Stop.Stop, Files.HasFile, Limits.holds_call}
use Rattle.vm_endings.specs.declared.stop.Stop.TheVariants.{Length, Line, Long, Page, Shape, TooFew, Unread}
use Rattle.vm_endings.specs.Held.{AreNoTree, HasFilePages, IsNoServedLength, IsServedTree}
use Rattle.vm_endings.specs.Images.{file_map, HoldsNoTree, HoldsNoTreeIn, IsTreeFile, IsTreeIn, IsWrongLength}
use Rattle.vm_endings.specs.Images.{IsWrongLengthIn, root_level}
use Rattle.vm_endings.specs.AnyFiles.{any_height, any_layout, IsBadScriptFor, IsGoodScriptFor}
use Rattle.vm_endings.specs.Outside.{Outside, Remains}
use Rattle.vm_endings.specs.Scripts.{AreBadEvents, AreGoodEvents, IsBadScript, IsGoodScript, IsLong}

pub data Test : Type 0 where
  -- a quantity is within its limits
  within : Quantity → Bool → Test
  -- so many pages of so many words are enough for the tree of so many pairs
  room : (words pages pairs : ℕ) → Test
  -- the file with this name is a page file whose pages are a tree
  image : List ℕ → Test
  -- the file with this name is a page file whose pages are a tree, with byte keys where it begins as such a file
  any_image : List ℕ → Test
  -- so many pages of 512 words are enough for the pairs of the tree in the file with this name
  space : ℕ → List ℕ → Test
  -- so many frames hold the pages of one call on the tree in the file with this name, with byte keys or without
  depth : ℕ → List ℕ → Test
  -- the pages that devices hold of the file with this name are 2 to 256, and a tree
  stored : List ℕ → Test
  -- so many frames hold the pages of one call on that tree
  stored_depth : ℕ → List ℕ → Test
  -- the file with this name is a script of so many workers
  script : List ℕ → ℕ → Test
  -- the file with the second name is a script of so many workers, with keys as the tree in the file with the first has
  run_script : (tree name : List ℕ) → ℕ → Test
  -- the file with this name is an event list
  events : List ℕ → Test

abbrev pub Passes : Outside → Test → Type 0
Passes outside (within quantity holds) = holds ≡ true
Passes outside (room words pages pairs) = needed words pairs ≤ pages
Passes outside (image name) = HasFile outside.shown name IsTreeFile
Passes outside (any_image name) = HasFile outside.shown name (λ bytes. IsTreeIn (any_layout bytes) bytes)
Passes outside (space pages name) = HasFile outside.shown name (λ bytes. needed 512 (length (file_map bytes)) ≤ pages)
Passes outside (depth frames name) = HasFile outside.shown name (λ bytes. holds_call (any_height bytes) frames ≡ true)
Passes outside (stored name) = HasFilePages outside name IsServedTree
Passes outside (stored_depth frames name) = HasFilePages outside name (λ pages. holds_call (root_level pages) frames ≡ true)
Passes outside (script name workers) = HasFile outside.shown name (IsGoodScript workers)
Passes outside (run_script tree name workers) =
    HasFile outside.shown tree (λ bytes. HasFile outside.shown name (IsGoodScriptFor bytes workers))
Passes outside (events name) = HasFile outside.shown name AreGoodEvents

-- a file was not read: it is the one that the host could not read last
abbrev pub IsUnread : Remains → (name unread : List ℕ) → Type 0
IsUnread left name unread = (unread ≡ name) × (left.unread ≡ name)

-- a page file of devices was not read: their count of faults rose since, or stands at its last value
abbrev pub IsUnservable : Outside → Remains → (name unread : List ℕ) → Type 0
IsUnservable outside left name unread = (unread ≡ name) × RoseOrLast outside.devices.count left.devices.count

-- why a file is no script: it was not read, it is too long, or a line is refused, which `bad` says
abbrev pub IsNoScript : Outside → Remains → (name : List ℕ) → (bad : ℕ → Type 0) → Stop → Type 0
IsNoScript outside left name bad (Unread unread) = IsUnread left name unread.now
IsNoScript outside left name bad (Long lines) = (lines ≡ Script) × HasFile outside.shown name IsLong
IsNoScript outside left name bad (Line lines n) = (lines ≡ Script) × bad n
IsNoScript outside left name bad _ = ⊥

-- why a test fails; `left` is what remains outside then
abbrev pub Fails : Outside → Remains → Test → Stop → Type 0
Fails outside left (within quantity holds) (Shape other) = (holds ≡ false) × (other ≡ quantity)
Fails outside left (within quantity holds) _ = ⊥
Fails outside left (room words pages pairs) (TooFew told wanted) =
    (pages < needed words pairs) × (told ≡ pages) × (wanted ≡ needed words pairs)
Fails outside left (room words pages pairs) _ = ⊥
Fails outside left (image name) (Unread unread) = IsUnread left name unread.now
Fails outside left (image name) (Length told) = HasFile outside.shown name (λ bytes. IsWrongLength bytes told)
Fails outside left (image name) (Page page why) = HasFile outside.shown name (λ bytes. HoldsNoTree bytes page why)
Fails outside left (image name) _ = ⊥
Fails outside left (any_image name) (Unread unread) = IsUnread left name unread.now
Fails outside left (any_image name) (Length told) = HasFile outside.shown name (λ bytes. IsWrongLengthIn (any_layout bytes) bytes told)
Fails outside left (any_image name) (Page page why) = HasFile outside.shown name (λ bytes. HoldsNoTreeIn (any_layout bytes) bytes page why)
Fails outside left (any_image name) _ = ⊥
Fails outside left (space pages name) (TooFew told wanted) =
    (told ≡ pages) × HasFile outside.shown name
    (λ bytes. (pages < needed 512 (length (file_map bytes))) × (wanted ≡ needed 512 (length (file_map bytes))))
Fails outside left (space pages name) _ = ⊥
Fails outside left (depth frames name) (Shape other) =
    (other ≡ Frames) × HasFile outside.shown name (λ bytes. holds_call (any_height bytes) frames ≡ false)
Fails outside left (depth frames name) _ = ⊥
Fails outside left (stored name) (Unread unread) = IsUnservable outside left name unread.now
Fails outside left (stored name) (Length told) = IsNoServedLength outside left name told
Fails outside left (stored name) (Page page why) = HasFilePages outside name (λ pages. AreNoTree pages page why)
Fails outside left (stored name) _ = ⊥
Fails outside left (stored_depth frames name) (Shape other) =
    (other ≡ Frames) × HasFilePages outside name (λ pages. holds_call (root_level pages) frames ≡ false)
Fails outside left (stored_depth frames name) _ = ⊥
Fails outside left (script name workers) stop =
    IsNoScript outside left name (λ n. HasFile outside.shown name (IsBadScript workers n)) stop
Fails outside left (run_script tree name workers) stop = IsNoScript outside left name
    (λ n. HasFile outside.shown tree (λ bytes. HasFile outside.shown name (IsBadScriptFor bytes workers n))) stop
Fails outside left (events name) (Unread unread) = IsUnread left name unread.now
Fails outside left (events name) (Long lines) = (lines ≡ Events) × HasFile outside.shown name IsLong
Fails outside left (events name) (Line lines n) = (lines ≡ Events) × HasFile outside.shown name (AreBadEvents n)
Fails outside left (events name) _ = ⊥

abbrev pub AllPass : Outside → List Test → Type 0
AllPass outside tests = AllByRecursion (Passes outside) tests

-- the first of the tests that fails, and why
pub data StopsAt (outside : Outside) (left : Remains) : List Test → Stop → Type 0 where
  here : {test : Test} {tests : List Test} {stop : Stop} → Fails outside left test stop → StopsAt outside left (test ∷ tests) stop
  past : {test : Test} {tests : List Test} {stop : Stop} → Passes outside test → StopsAt outside left tests stop
      → StopsAt outside left (test ∷ tests) stop
