-- What driving the workers leaves.
use Rattle.std.specs.declared.alloc.Global.{Global}
use Rattle.std.specs.List.{AllByRecursion}
use Rattle.std.specs.Prelude.{◌++◌, ◌+◌, ◌≡◌, ◌≤◌, Bool, length, List, map, Result, true, Vec, ℕ}
use Rattle.vm_map.specs.{declared.call.Call.Call, History.IsAskable}
use Rattle.vm_event.specs.Prelude.{MAX_VERSION}
use Rattle.vm_rule.specs.Prelude.{Entry, has, HoldsNoPage, last_of, StartsWith}
use Rattle.vm_step.specs.from_vm_rule_laws.Known.{kept_by}
use Rattle.vm_step.specs.Prelude.{IsAlone, View}
use Rattle.vm_calls.specs.from_vm_tree_rule.declared_fault_TreeFault.{TreeFault}
use Rattle.vm_calls.specs.{Calling.Calling, Causes.IsUntold, Causes.notes_about}
use Rattle.vm_drive.specs.Lists.{all_faults_of, AllCausedBy, AllShown, AreKept}
use Rattle.vm_drive.specs.Parts.{HaveParts, logs_of, noted_by, StandBehind}
use Rattle.vm_drive.specs.Holds.{HoldsCalls}

-- the lists in the vectors
abbrev pub items_of : {X : Type 0} → List (Vec X Global) → List (List X)
items_of vectors = map (λ v. v.items) vectors

-- no list has more than a script's most lines
abbrev pub AreFew : {X : Type 0} → List (List X) → Type 0
AreFew lists = AllByRecursion (λ list. length list ≤ 1000000) lists

-- each window is asked for at least one pair, and each range up to a bound above its key
abbrev pub AreAskable : List (List Call) → Type 0
AreAskable lists = AllByRecursion (λ calls. AllByRecursion IsAskable calls) lists

-- the next word leaves no room for a split of the image of so many pages
abbrev pub IsUsedUp : {X : Type 0} → View X → ℕ → Type 0
IsUsedUp w pages = (pages ≡ w.start.pages) × (pages ≤ (kept_by w).next + 1)

-- the page is at the last version that there can be
abbrev pub IsAtLastVersion : {X : Type 0} → View X → ℕ → Type 0
IsAtLastVersion w p = MAX_VERSION ≤ (last_of w p).version

-- The workers have made the calls of their lists, with these answers, and their passes went into the one that had the
-- view v and has the view w: it is whole again, holds no page, and has just the frames that it had. What it has seen
-- begins with what it had seen, is
-- legal, and is all its own. Its own entries grew by just the lists' calls that had a reply, each list in order under
-- a number of its own. Each fault
-- of a device has its own new note of the page; each other fault has its cause, and each reply shows what it does. Each
-- worker made its calls one after another, and what each was answered comes of the steps and notes of that very call
pub record IsDriven {X C R P : Type 0} (kind : Calling X C R P) (tells : Bool) (lists : List (List C))
    (answers : List (List (Result R TreeFault))) (v w : View X) : Type 0 where
  pub alone : IsAlone w
  pub holds : HoldsNoPage w
  -- so no frame is lost: each worker's went back to the bundles
  pub frames : (f : ℕ) → has f w.frames ≡ has f v.frames
  pub start : w.start ≡ v.start
  pub seen : StartsWith w.seen v.seen
  pub legal : tells ≡ true → kind.legal w.start w.seen
  pub all : w.mine ≡ w.seen
  pub grew : List (Entry X)
  pub mine : w.mine ≡ v.mine ++ grew
  pub calls : HoldsCalls kind.plain kind.said grew lists answers
  pub faults : (p : ℕ) → notes_about p v.notes + all_faults_of p answers ≤ notes_about p w.notes
  pub caused : AllCausedBy kind (IsUsedUp w) (IsAtLastVersion w) (IsUntold w) lists answers
  pub shown : AllShown kind w lists answers
  -- what each worker's pass knew behind its last call; its steps and notes stand in those of the joined pass, one worker's behind another's
  pub passes : List (View X)
  pub parts : HaveParts kind w lists answers passes
  pub logs : StandBehind v.log (logs_of passes) w.log
  pub noted : StandBehind v.notes (noted_by passes) w.notes

-- the same, where each worker's answers were kept so
pub record IsDrivenInto {X C R P A : Type 0} (kind : Calling X C R P) (keeps : A → List (Result R TreeFault) → Type 0)
    (tells : Bool) (lists : List (List C)) (kept : List A) (v w : View X) : Type 0 where
  pub told : List (List (Result R TreeFault))
  pub stand : AreKept keeps kept told
  pub driven : IsDriven kind tells lists told v w
