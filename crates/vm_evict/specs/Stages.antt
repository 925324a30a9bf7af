-- How far an eviction is with a candidate: what is known of it at each stage, by the steps of the call so far and the
-- pass's view now; and what the
-- steps of a phase on one candidate come to.
use Rattle.std.specs.Prelude.{[], Bool, false, IsSome, length, List, None, Some, true, ℕ, ◌++◌, ◌+◌, ◌<◌, ◌∷◌, ◌≡◌, ◌≢◌, ◌⊎◌}
use Rattle.vm_event.specs.Prelude.{mapping_of, version_of, word_of}
use Rattle.vm_rule.specs.Prelude.{clean_in, draft_of, Each, has, held_at, IsLocking, last_of, Seat, seat_of, stands_dirty, StartsWith}
use Rattle.vm_rule.specs.declared.view.WordPlace.TheVariants as places
use Rattle.vm_supply.specs.from_vm_step.Prelude.{candidate_pages, Did, HoldsPage, IsAlone, IsToldOf, KeepsNumbers, KnowsAsBefore}
use Rattle.vm_supply.specs.from_vm_step.Prelude.{LeavesRest, Note, ReadsAsBefore, Release, RunsAlone, StaysAlone, Tie, Translation}
use Rattle.vm_supply.specs.from_vm_step.Prelude.{Unstored, View}
use Rattle.vm_supply.specs.from_vm_step.declared_choice_Looks.{Looks}
use Rattle.vm_evict.specs.{declared.candidate.Phase.Phase, declared.candidate.Stage.Stage}
use Rattle.vm_evict.specs.{declared.report.Evicted.Evicted, declared.report.Report.Report, Phases.Does}
use Rattle.vm_evict.specs.{Phases.DoesOne, Tables.KnowsStage, Writes.HasNotSaved, Writes.writing_seat}
use Rattle.vm_evict.specs.Evictions.{candidate_at, first_pair, frame_at, FramesCome, gathered, IsMissed, IsPageFreed}
use Rattle.vm_evict.specs.Evictions.{IsSavedFrom, IsSharedToSave, IsTakenOut, IsWriteFailed, LocksFrom, note_at}
use Rattle.vm_evict.specs.Evictions.{one_if, release_at, stage_at}
use Rattle.vm_evict.specs.declared.candidate.Phase.TheVariants as phases
use Rattle.vm_evict.specs.declared.candidate.Stage.TheVariants as stages

-- the pass's locks of a page held exclusively
abbrev pub owning_seat : Seat
owning_seat = record { shares = 0; exclusive = true; writing = false; reading = None }

-- ---- the report

abbrev pub none_of : Looks → Report
none_of looks = record { freed = 0; written = 0; failed = 0; lost = 0; first_failed = None; looks = looks }

-- what became of candidate p was counted, and its frame was taken
abbrev pub IsAdded : ℕ → Stage → Evicted → Evicted → Type 0
IsAdded p (stages.Freed frame written) old new =
    (new.report ≡ record (old.report) { freed = old.report.freed + 1; written = old.report.written + one_if written })
    × (new.frames ≡ old.frames ++ frame ∷ [])
IsAdded p (stages.Failed count) old new =
    (new.report ≡ record (old.report) { failed = old.report.failed + 1; first_failed = first_pair old.report.first_failed (p, count) })
    × (new.frames ≡ old.frames)
IsAdded p (stages.Lost written) old new =
    (new.report ≡ record (old.report) { lost = old.report.lost + 1; written = old.report.written + one_if written })
    × (new.frames ≡ old.frames)
IsAdded p s old new = ⊥

-- ---- the order of the stages

-- the stages before a phase, and at the end
abbrev pub MayBeginPhase : Phase → Stage → Type 0
MayBeginPhase phases.Save stages.Waiting = Unit {0}
MayBeginPhase phases.Lock stages.Clean = Unit {0}
MayBeginPhase phases.Lock (stages.Shared written) = Unit {0}
MayBeginPhase phases.Raise (stages.Shared written) = Unit {0}
MayBeginPhase phases.Raise (stages.Owned written) = Unit {0}
MayBeginPhase phases.Empty (stages.Owned written) = Unit {0}
MayBeginPhase phases.Leave (stages.Emptied frame written) = Unit {0}
MayBeginPhase phases.Save s = ⊥
MayBeginPhase phase (stages.Failed count) = Unit {0}
MayBeginPhase phase (stages.Lost written) = Unit {0}
MayBeginPhase phase s = ⊥

abbrev pub IsOver : Stage → Type 0
IsOver (stages.Freed frame written) = Unit {0}
IsOver (stages.Failed count) = Unit {0}
IsOver (stages.Lost written) = Unit {0}
IsOver s = ⊥

-- the stages after a phase
abbrev pub MayEnd : Phase → Stage → Type 0
MayEnd phases.Save s = MayBeginPhase phases.Lock s
MayEnd phases.Lock s = MayBeginPhase phases.Raise s
MayEnd phases.Raise s = MayBeginPhase phases.Empty s
MayEnd phases.Empty s = MayBeginPhase phases.Leave s
MayEnd phases.Leave s = IsOver s

-- what the stage gives more, which it does in one phase alone
pub record Adds {A : Type 0} (give : Stage → List A) (phase only : Phase) (old new : Stage) (more : List A) : Type 0 where
  pub is : give new ≡ give old ++ more
  pub when : (more ≡ []) ⊎ (phase ≡ only)

-- ---- one candidate

module _ {X : Type 0} where
  -- the pass has the locks of page p that it had, and knows of it what it knew
  pub record Rests (p : ℕ) (v x : View X) : Type 0 where
    pub holds : HoldsPage v x p
    pub knows : IsLocking (seat_of v p) → KnowsAsBefore v x p

  -- none of the steps wrote its state word, and it was not written
  pub record IsWaiting (p : ℕ) (done : List Did) (v x : View X) : Type 0 where
    pub quiet : Each (λ d. d.at ≡ places.State p → d.wrote ≡ None) done
    pub kept : HasNotSaved p done
    pub rests : Rests p v x
    pub start : x.start ≡ v.start
    pub since : StartsWith x.releases v.releases

  -- so it was read at this word's version, and its translation word says that it is clean
  pub record IsSeenClean (p word : ℕ) (done : List Did) (v x : View X) : Type 0 where
    pub waits : IsWaiting p done v x
    pub translation : ℕ
    pub newer : List Translation
    pub older : List Translation
    pub loaded : x.translations ≡ newer ++ record { page = p; version = version_of word; word = translation } ∷ older
    pub clean : stands_dirty (mapping_of translation) ≡ false

  -- the pass has no lock of page p
  pub record HasNoLockOf (v : View X) (p : ℕ) : Type 0 where
    pub shares : (seat_of v p).shares ≡ 0
    pub exclusive : (seat_of v p).exclusive ≡ false
    pub writing : (seat_of v p).writing ≡ false

  -- page p, which the pass had not locked at v, was locked at this word's version, and is locked so that the pass has this seat
  pub record HasLockTaken (p word : ℕ) (seat : Seat) (v x : View X) : Type 0 where
    pub before : HasNoLockOf v p
    pub start : x.start ≡ v.start
    pub since : StartsWith x.releases v.releases
    pub free : has p x.pending ≡ false
    pub paid : has p x.owed ≡ false
    pub next : x.next ≢ Some p
    pub now : seat_of x p ≡ seat
    pub at : (last_of x p).version ≡ version_of word
    pub size : length (last_of x p).words ≡ x.start.size
    pub told : IsToldOf x p

  -- it is under write-back; it was made clean, if it was written
  pub record IsWriting (p word : ℕ) (written : Bool) (done : List Did) (v x : View X) : Type 0 where
    pub taken : HasLockTaken p word writing_seat v x
    pub shared : IsSharedToSave p word done
    pub foreign : (found : ℕ) → found ≢ word_of 1 (version_of word) → Each (λ d. d.at ≡ places.State p → d.wrote ≢ Some found) done
    pub unreleased : Unstored p done
    pub kept : written ≡ false → HasNotSaved p done
    pub resident : IsSome (held_at x p).mapping
    pub cleaned : written ≡ true → (frame : ℕ) × ((held_at x p).mapping ≡ Some (clean_in frame)) × IsSavedFrom p word frame done

  -- page p stands clean
  abbrev pub IsCleanAt : ℕ → View X → Type 0
  IsCleanAt p x = (frame : ℕ) × ((held_at x p).mapping ≡ Some (clean_in frame))

  -- it is held exclusively, and stands clean in this frame
  pub record IsOwning (p word frame : ℕ) (written : Bool) (done : List Did) (v x : View X) : Type 0 where
    pub taken : HasLockTaken p word owning_seat v x
    pub locked : LocksFrom p word done
    pub foreign : Each (λ d. d.at ≡ places.State p → d.wrote ≢ Some word) done
    pub stands : (held_at x p).mapping ≡ Some (clean_in frame)
    pub draft : draft_of x p ≡ (last_of x p).words
    pub cleaned : written ≡ true → IsSavedFrom p word frame done
    pub kept : written ≡ false → HasNotSaved p done

  -- it is held exclusively, and was taken out of this frame
  pub record IsEmptied (p word frame : ℕ) (written : Bool) (done : List Did) (v x : View X) : Type 0 where
    pub taken : HasLockTaken p word owning_seat v x
    pub out : IsTakenOut p word frame written done
    pub empty : (held_at x p).mapping ≡ None
    pub draft : draft_of x p ≡ (last_of x p).words

  -- what is known of a candidate at its stage, after these steps since v
  abbrev pub IsAt : ℕ × ℕ → Stage → List Did → View X → View X → Type 0
  IsAt c stages.Waiting done v x = IsWaiting c.0 done v x
  IsAt c stages.Clean done v x = IsSeenClean c.0 c.1 done v x
  IsAt c (stages.Shared written) done v x = IsWriting c.0 c.1 written done v x × IsCleanAt c.0 x
  IsAt c (stages.Owned written) done v x = (frame : ℕ) × IsOwning c.0 c.1 frame written done v x
  IsAt c (stages.Emptied frame written) done v x = IsEmptied c.0 c.1 frame written done v x
  IsAt c (stages.Freed frame written) done v x = IsPageFreed c.0 c.1 frame written done v x × Rests c.0 v x
  IsAt c (stages.Failed count) done v x = IsWriteFailed c.0 c.1 count done v × Rests c.0 v x
  IsAt c (stages.Lost written) done v x = IsMissed c.0 c.1 written done × Rests c.0 v x

  -- ---- the steps of a phase on one candidate

  -- steps on its own words, with no block out afterwards
  pub record Moves (phase : Phase) (c : ℕ × ℕ) (more : List Did) (x y : View X) : Type 0 where
    pub leaves : LeavesRest c.0 more x y
    pub does : Each (Does phase c) more
    pub home : x.out ≡ None → y.out ≡ None
    pub newer : List Translation
    pub reads : y.translations ≡ newer ++ x.translations

  -- the candidate comes from one stage to another
  pub record Advances (phase : Phase) (c : ℕ × ℕ) (old new : Stage) (done : List Did) (v x y : View X) : Type 0 where
    pub more : List Did
    pub moves : Moves phase c more x y
    pub at : IsAt c new (done ++ more) v y
    pub ends : MayEnd phase new
    pub own : List Release
    pub runs : RunsAlone more own x y
    pub alone : StaysAlone x y
    pub releases : Adds (release_at x c) phase phases.Leave old new own
    pub notes : List Note
    pub noted : y.notes ≡ x.notes ++ notes
    pub notes_are : Adds (note_at c) phase phases.Save old new notes
    pub frames : List ℕ
    pub come : FramesCome frames x y
    pub frames_are : Adds (frame_at c) phase phases.Empty old new frames
    -- what a pass that is alone knew of its words at the one stage it knows at the other
    pub table : IsAlone x → c.0 < x.start.pages → KnowsStage c old v x → KnowsStage c new v y

  -- the phase carries the candidate from one stage to another, whatever the call did before
  abbrev pub Carries : Phase → ℕ × ℕ → Stage → Stage → View X → View X → Type 0
  Carries phase c old new x y = (v : View X) (done : List Did) → IsAt c old done v x → Advances phase c old new done v x y

  -- ---- all candidates

  -- the call made these steps, all on the candidates' words: other pages are as they were
  pub record LeavesAll (list : List (ℕ × ℕ)) (done : List Did) (v x : View X) : Type 0 where
    pub log : x.log ≡ v.log ++ done
    pub live : x.live ≡ v.live
    pub start : x.start ≡ v.start
    pub parts : (x.used ≡ v.used) × (x.fresh ≡ v.fresh)
    pub mine : x.mine ≡ v.mine
    pub seen : StartsWith x.seen v.seen
    pub releases : StartsWith x.releases v.releases
    pub ties : (more : List Tie) × (x.ties ≡ more ++ v.ties)
    pub group : (x.pending ≡ v.pending) × (x.owed ≡ v.owed) × (x.next ≡ v.next)
    pub numbers : KeepsNumbers v x
    pub others : (q : ℕ) → has q (candidate_pages list) ≡ false → Rests q v x × ReadsAsBefore v x q

  -- how far the eviction is
  pub record IsUnderWay (list : List (ℕ × ℕ)) (ends : List Stage) (done : List Did) (v x : View X) : Type 0 where
    pub leaves : LeavesAll list done v x
    pub none : v.out ≡ None
    pub home : x.out ≡ None
    pub each : (n : ℕ) → n < length list → IsAt (candidate_at list n) (stage_at ends n) done v x
    pub runs : RunsAlone done (gathered (release_at v) (length list) list ends) v x
    pub alone : StaysAlone v x
    pub noted : x.notes ≡ v.notes ++ gathered note_at (length list) list ends
    pub frames : FramesCome (gathered frame_at (length list) list ends) v x
    pub table : IsAlone v → (n : ℕ) → n < length list → (candidate_at list n).0 < v.start.pages
        → KnowsStage (candidate_at list n) (stage_at ends n) v x

  -- a phase was made: from these stages to those
  pub record IsPhaseMade (phase : Phase) (list : List (ℕ × ℕ)) (new : List Stage) (done : List Did) (v w : View X) : Type 0 where
    pub more : List Did
    pub does : Each (DoesOne phase list) more
    pub after : IsUnderWay list new (done ++ more) v w
