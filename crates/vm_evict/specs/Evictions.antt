-- What becomes of the candidates for eviction. A candidate is freed: locked from the very word at which it was
-- marked, written before if it was
-- dirty, taken out of its frame, and released as evicted at its next version with the words that it had. Or its write failed, and it stays
-- resident and dirty, at its version. Or it changed before it could be locked.
use Rattle.std.specs.Prelude.{[], Bool, false, if◌then◌else◌, length, List, None, Option, slice_index_or, Some, suc}
use Rattle.std.specs.Prelude.{true, zero, ℕ, ◌++◌, ◌+◌, ◌<◌, ◌||◌, ◌∷◌, ◌≡◌, ◌≢◌, ◌⊎◌}
use Rattle.vm_event.specs.Prelude.{EVICTED, LOCKED, mapping_of, trans_word, version_of, word_of}
use Rattle.vm_rule.specs.Prelude.{AreApart, clean_in, contents_at, Each, has, last_in, last_of}
use Rattle.vm_rule.specs.declared.view.WordPlace.{WordPlace}
use Rattle.vm_rule.specs.declared.view.WordPlace.TheVariants as places
use Rattle.vm_supply.specs.from_vm_step.{declared_choice_Looks.Looks, Evidence.IsLoad}
use Rattle.vm_supply.specs.from_vm_step.Prelude.{candidate_pages, Did, GoesOnce, HasGiven, HasWritten, IsAlone, IsAsideOf, IsLost}
use Rattle.vm_supply.specs.from_vm_step.Prelude.{KnowsElse, Note, Release, RunsAlone, StaysHome, Unstored, View, WritesNone}
use Rattle.vm_evict.specs.{declared.candidate.Stage.Stage, declared.report.Report.Report, Phases.InPhases}
use Rattle.vm_evict.specs.{Tables.IsOfAny, Tables.KnowsStage}
use Rattle.vm_evict.specs.Writes.{HasNotSaved, HasSaved, IsAllowed, IsFoundDirty}
use Rattle.vm_evict.specs.declared.candidate.Stage.TheVariants as stages

-- one of these steps is of this kind, after those before it
pub record HasStep (kind : List Did → Did → Type 0) (done : List Did) : Type 0 where
  pub earlier : List Did
  pub step : Did
  pub later : List Did
  pub cut : done ≡ earlier ++ step ∷ later
  pub is : kind earlier step

-- an exchange of these steps expected this word, and found another, which none of the steps before had left there
abbrev pub HasLost : List Did → WordPlace → ℕ → Type 0
HasLost done at expects =
    HasStep (λ earlier d. (found : ℕ) × IsLost d at expects found × Each (λ e. e.at ≡ at → e.wrote ≢ Some found)
    earlier) done

-- an exchange of these steps found the word that it expected, and put another in its place
abbrev pub HasTaken : List Did → WordPlace → ℕ → ℕ → Type 0
HasTaken done at expects new =
    HasStep (λ earlier d. (d.at ≡ at) × (d.expects ≡ Some expects) × (d.found ≡ Some expects) × (d.wrote ≡ Some new))
    done

-- why a page is shared from its word: a step found it dirty, or a look found another word than that
abbrev pub IsToShare : ℕ → ℕ → List Did → Type 0
IsToShare p word done =
    ((frame : ℕ) × IsFoundDirty p frame done)
    ⊎ ((seen : ℕ) × (look : HasGiven done (places.State p) seen) × IsLoad look.step × (seen ≢ word))

-- page p was shared from this word, and had not been seen clean with it
pub record IsSharedToSave (p word : ℕ) (done : List Did) : Type 0 where
  pub taken : HasTaken done (places.State p) word (word_of 1 (version_of word))
  pub why : IsToShare p word taken.earlier

-- page p went from this word to Locked at its version: by one exchange, or by way of one share, which was taken from the word
pub data LocksFrom (p word : ℕ) (done : List Did) : Type 0 where
  once : HasTaken done (places.State p) word (word_of LOCKED (version_of word)) → LocksFrom p word done
  by_share :
      (l : HasTaken done (places.State p) (word_of 1 (version_of word)) (word_of LOCKED (version_of word)))
      → IsSharedToSave p word l.earlier → LocksFrom p word done

-- page p was shared from this word, and written under the share
abbrev pub IsSavedFrom : ℕ → ℕ → ℕ → List Did → Type 0
IsSavedFrom p word frame done = (s : IsSharedToSave p word done) × HasSaved p frame s.taken.later done

abbrev pub one_if : Bool → ℕ
one_if b = if b then 1 else 0

-- the first of them, or this one
abbrev pub first_pair : Option (ℕ × ℕ) → ℕ × ℕ → Option (ℕ × ℕ)
first_pair None x = Some x
first_pair (Some y) x = Some y

-- page and count of the first of these notes
abbrev pub first_of : List Note → Option (ℕ × ℕ)
first_of [] = None
first_of (n ∷ ns) = Some (n.page, n.count)

-- ---- the candidates, each with the stage at which it ended

-- the candidate, and the stage, at a place
abbrev pub candidate_at : List (ℕ × ℕ) → ℕ → ℕ × ℕ
candidate_at list n = slice_index_or list n (0, 0)

abbrev pub stage_at : List Stage → ℕ → Stage
stage_at ends n = slice_index_or ends n stages.Waiting

-- what the first n of them give, in the list's order
abbrev pub gathered : {A : Type 0} → (ℕ × ℕ → Stage → List A) → ℕ → List (ℕ × ℕ) → List Stage → List A
gathered give zero list ends = []
gathered give (suc n) list ends = gathered give n list ends ++ give (candidate_at list n) (stage_at ends n)

-- the frame that a page was taken out of
abbrev pub frame_at : ℕ × ℕ → Stage → List ℕ
frame_at c (stages.Emptied frame written) = frame ∷ []
frame_at c (stages.Freed frame written) = frame ∷ []
frame_at c s = []

-- the note of a fault
abbrev pub note_at : ℕ × ℕ → Stage → List Note
note_at c (stages.Failed count) = record { page = c.0; count = count } ∷ []
note_at c s = []

-- the page, if it was lost; and if it was written
abbrev pub lost_at : ℕ × ℕ → Stage → List ℕ
lost_at c (stages.Lost written) = c.0 ∷ []
lost_at c s = []

abbrev pub written_at : ℕ × ℕ → Stage → List ℕ
written_at c (stages.Lost written) = if written then c.0 ∷ [] else []
written_at c (stages.Freed frame written) = if written then c.0 ∷ [] else []
written_at c s = []

-- the report has the counts of these lists, and the looks that found the candidates
pub record Tallies (evicted saved : List ℕ) (notes : List Note) (missed : List ℕ) (looks : Looks) (report : Report) : Type 0 where
  pub freed : report.freed ≡ length evicted
  pub written : report.written ≡ length saved
  pub failed : report.failed ≡ length notes
  pub lost : report.lost ≡ length missed
  pub first : report.first_failed ≡ first_of notes
  pub looks_are : report.looks ≡ looks

-- the report has the counts of the first n
abbrev pub Counts : ℕ → List (ℕ × ℕ) → Looks → List Stage → Report → Type 0
Counts n list looks ends report =
    Tallies (gathered frame_at n list ends) (gathered written_at n list ends) (gathered note_at n list ends)
    (gathered lost_at n list ends) looks report

-- an exchange on it was lost: one that expected the word, or one that expected the pass's share alone at its version,
-- which a step before had
-- taken from the word; where it was written it had been dirty under the share, and where it was not, its device was not called
pub record IsMissed (p word : ℕ) (written : Bool) (done : List Did) : Type 0 where
  pub why : HasLost done (places.State p) word
      ⊎ ((l : HasLost done (places.State p) (word_of 1 (version_of word))) × IsSharedToSave p word l.earlier)
  pub cleaned : written ≡ true → (frame : ℕ) × IsSavedFrom p word frame done
  pub unwritten : written ≡ false → HasNotSaved p done
  pub unreleased : Unstored p done

-- page p was locked from this word, which no step put there, stood clean in this frame, and was taken out of it;
-- where it was written it had been
-- dirty under the pass's share, and where it was not, its device was not called
pub record IsTakenOut (p word frame : ℕ) (written : Bool) (done : List Did) : Type 0 where
  pub locked : LocksFrom p word done
  pub foreign : Each (λ d. d.at ≡ places.State p → d.wrote ≢ Some word) done
  -- a step found that it stands in this frame, clean
  pub stood : (found : ℕ) × HasGiven done (places.Translation p) found × (mapping_of found ≡ Some (clean_in frame))
  pub cleaned : written ≡ true → IsSavedFrom p word frame done
  pub unwritten : written ≡ false
      → Each (λ d. d.at ≡ places.Translation p → d.wrote ≢ Some (trans_word (Some (clean_in frame)))) done
      × StaysHome p done
  -- the frame's owner word names no page, and then the translation names no frame
  pub disowned : HasWritten done (places.Owner frame) 0
  pub emptied : HasWritten done (places.Translation p) (trans_word None)

module _ {X : Type 0} where
  -- the release of a page that was freed, with the words that it had at v
  abbrev pub release_at : View X → ℕ × ℕ → Stage → List Release
  release_at v c (stages.Freed frame written) = record { page = c.0; version = version_of c.1 + 1; words = (last_of v c.0).words } ∷ []
  release_at v c s = []

  -- these frames came to the pass, each another one and none of those that it had, whose words are as they were
  pub record FramesCome (batch : List ℕ) (v w : View X) : Type 0 where
    pub apart : AreApart batch
    pub inside : Each (λ f. f < v.start.frames) batch
    pub new : Each (λ f. has f v.frames ≡ false) batch
    pub all : (f : ℕ) → has f w.frames ≡ (has f batch || has f v.frames)
    pub words : (f : ℕ) → has f v.frames ≡ true → contents_at w f ≡ contents_at v f

  -- page p was released at the next version with the words that it had
  pub record HasReleased (p word : ℕ) (v w : View X) : Type 0 where
    pub words : List ℕ
    pub before : List Release
    pub after : List Release
    pub releases : w.releases ≡ ((v.releases ++ before) ++ record { page = p; version = version_of word + 1; words = words } ∷ []) ++ after
    pub same : last_in v.start (v.releases ++ before) p ≡ record { version = version_of word; words = words }

  -- ---- one candidate, by the steps of the call

  -- it was taken out of its frame, which came to the pass, and went evicted
  pub record IsPageFreed (p word frame : ℕ) (written : Bool) (done : List Did) (v w : View X) : Type 0 where
    pub out : IsTakenOut p word frame written done
    pub left : HasWritten done (places.State p) (word_of EVICTED (version_of word + 1))
    pub released : HasReleased p word v w

  -- its write failed: it was shared from its word and found dirty under the share; its block went out once; its
  -- translation word stays, and it was
  -- not released; the fault word was raised
  pub record IsWriteFailed (p word count : ℕ) (done : List Did) (v : View X) : Type 0 where
    pub shared : IsSharedToSave p word done
    pub dirty : (frame : ℕ) × IsFoundDirty p frame shared.taken.later
    pub block : GoesOnce p done
    pub kept : WritesNone (places.Translation p) done
    pub raised : HasWritten done (places.Fault p) count
    pub allowed : IsAllowed v.start p count
    pub unreleased : Unstored p done

  -- what became of a candidate
  abbrev pub IsEnd : ℕ × ℕ → Stage → List Did → View X → View X → Type 0
  IsEnd c (stages.Freed frame written) done v w = IsPageFreed c.0 c.1 frame written done v w
  IsEnd c (stages.Failed count) done v w = IsWriteFailed c.0 c.1 count done v
  IsEnd c (stages.Lost written) done v w = IsMissed c.0 c.1 written done
  IsEnd c s done v w = ⊥

  -- ---- a list of candidates

  -- what a pass that was alone knows then: of each candidate's words what its end says, and all other words as they
  -- were, the bundles' among them
  pub record KnowsEvicted (list : List (ℕ × ℕ)) (ends : List Stage) (v w : View X) : Type 0 where
    pub each : (n : ℕ) → n < length list → KnowsStage (candidate_at list n) (stage_at ends n) v w
    pub others : KnowsElse (IsOfAny (candidate_pages list)) v w

  -- what `evict` of these candidates does, in its phases: each is evicted, or could not be written, or was lost;
  -- their frames are in the batch
  pub record IsBatch (list : List (ℕ × ℕ)) (looks : Looks) (v w : View X) (report : Report) (batch : List ℕ) : Type 0 where
    pub done : List Did
    pub phases : InPhases list done
    pub ends : List Stage
    pub each : (n : ℕ) → n < length list → IsEnd (candidate_at list n) (stage_at ends n) done v w
    pub counts : Counts (length list) list looks ends report
    pub all : report.freed + (report.failed + report.lost) ≡ length list
    pub count : length batch ≡ report.freed
    pub batched : batch ≡ gathered frame_at (length list) list ends
    pub aside : IsAsideOf (λ p. has p (candidate_pages list) ≡ true) done v w
    pub frames : FramesCome batch v w
    -- the faults noted are those of the pages whose write failed, in their order; the first is reported
    pub notes : List Note
    pub noted : notes ≡ gathered note_at (length list) list ends
    pub after : w.notes ≡ v.notes ++ notes
    pub first : report.first_failed ≡ first_of notes
    pub allowed : Each (λ n. IsAllowed v.start n.page n.count) notes
    -- where the pass is alone, no page was released but those freed
    pub alone : RunsAlone done (gathered (release_at v) (length list) list ends) v w
    pub table : IsAlone v → KnowsEvicted list ends v w
