-- The pages of a group under write-back are written, each where it is dirty.
use Rattle.std.specs.Prelude.{[], ◌++◌, ◌+◌, ◌∷◌, ◌≡◌, ◌≤◌, false, IsSome, length, List, Some, true, ℕ}
use Rattle.vm_rule.specs.Prelude.{clean_in, Each, has, held_at}
use Rattle.vm_rule.specs.declared.view.WordPlace.{WordPlace}
use Rattle.vm_step.specs.Prelude.{Did, GoesOnce, HasWritten, RunsAlone, View, WritesNone}
use Rattle.vm_evict.specs.Writes.{HasNotSaved, HasSaved, IsAllowed, IsFoundDirty, IsUnderWriteBack, WritesPage}
use Rattle.vm_group_guard.specs.Group.{IsUnder}
use Rattle.vm_group_evict.specs.{declared.save.Failure.Failure, Leaving.PageStays, Leaving.LeavesGroup}

-- the step is one of a write-back of one of the group's pages
abbrev pub WritesUnder : ℕ → ℕ → Did → Type 0
WritesUnder h size d = (q : ℕ) × IsUnder h size q × WritesPage q d

module _ {X : Type 0} where
  -- each page of the group is resident, and under write-back by the pass
  abbrev pub AreUnderWriteBack : ℕ → ℕ → View X → Type 0
  AreUnderWriteBack h size v = (q : ℕ) → IsUnder h size q → IsUnderWriteBack q v × IsSome (held_at v q).mapping

  -- the page stands clean
  abbrev pub StandsCleanNow : ℕ → View X → Type 0
  StandsCleanNow q v = (frame : ℕ) × ((held_at v q).mapping ≡ Some (clean_in frame))

  -- The first `count` pages of the group were saved: each stands clean. Those of `pages` were found dirty, and written
  -- once; the others were not.
  pub record AreSaved (h size count : ℕ) (pages : List ℕ) (done : List Did) (v w : View X) : Type 0 where
    pub leaves : LeavesGroup h size done v w
    pub runs : RunsAlone done [] v w
    pub does : Each (WritesUnder h size) done
    pub keeps : (q : ℕ) → PageStays q v w
    pub under : AreUnderWriteBack h size w
    pub among : Each (IsUnder h count) pages
    pub clean : (q : ℕ) → IsUnder h count q → StandsCleanNow q w
    pub saved : (q : ℕ) → has q pages ≡ true → (frame : ℕ) × HasSaved q frame done done
    pub unsaved : (q : ℕ) → IsUnder h size q → has q pages ≡ false → HasNotSaved q done
    pub frames : (w.frames ≡ v.frames) × (w.contents ≡ v.contents)
    pub reads : w.translations ≡ v.translations

  -- all were
  pub record IsGroupSaved (h size written : ℕ) (v w : View X) : Type 0 where
    pub pages : List ℕ
    pub done : List Did
    pub are : AreSaved h size size pages done v w
    pub count : written ≡ length pages
    pub few : length pages ≤ size
    pub notes : w.notes ≡ v.notes

  -- The write of a page failed: it was found dirty, its block went out once, its translation word stays, and its fault
  -- is noted, with the count that its fault word was raised to. Those before it were saved.
  pub record IsGroupUnsaved (h size : ℕ) (failure : Failure) (v w : View X) : Type 0 where
    pub place : ℕ
    pub page : failure.page ≡ h + place
    pub inside : IsUnder h size failure.page
    pub pages : List ℕ
    pub before : List Did
    pub done : List Did
    pub point : View X
    pub are : AreSaved h size place pages before v point
    pub count : failure.written ≡ length pages
    pub few : length pages ≤ place
    pub leaves : LeavesGroup h size (before ++ done) v w
    pub runs : RunsAlone (before ++ done) [] v w
    pub does : Each (WritesUnder h size) (before ++ done)
    pub keeps : (q : ℕ) → PageStays q v w
    pub under : (q : ℕ) → IsUnder h size q → IsUnderWriteBack q w
    pub dirty : (frame : ℕ) × IsFoundDirty failure.page frame done
    pub block : GoesOnce failure.page (before ++ done)
    pub kept : WritesNone (WordPlace.Translation failure.page) (before ++ done)
    pub raised : HasWritten done (WordPlace.Fault failure.page) failure.count
    pub allowed : IsAllowed v.start failure.page failure.count
    pub noted : w.notes ≡ v.notes ++ record { page = failure.page; count = failure.count } ∷ []
    pub frames : (w.frames ≡ v.frames) × (w.contents ≡ v.contents)

  -- so many were so far, and so many of them written
  pub record SavesFirst (h size count written : ℕ) (v w : View X) : Type 0 where
    pub pages : List ℕ
    pub done : List Did
    pub are : AreSaved h size count pages done v w
    pub tally : written ≡ length pages
    pub few : length pages ≤ count
    pub notes : w.notes ≡ v.notes
