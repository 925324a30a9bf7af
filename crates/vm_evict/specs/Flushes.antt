-- What a flush does with each page, by rising number. A page that is evicted or clean it leaves; one that somebody
-- has locked, or that changed
-- before it could be locked, is busy; any other is written under a share, and is clean then, or its write failed and it stays dirty.
use Rattle.std.specs.Prelude.{[], Bool, Err, false, if◌then◌else◌, length, List, None, Ok, Option, Result, Some, suc}
use Rattle.std.specs.Prelude.{true, zero, ℕ, ◌++◌, ◌+◌, ◌-◌, ◌<◌, ◌==◌, ◌^◌, ◌∷◌, ◌≡◌, ◌≢◌, ◌≤◌, ◌⊎◌}
use Rattle.vm_event.specs.Prelude.{EVICTED, mapping_of, MARKED, state_of, UNLOCKED, version_of, word_of}
use Rattle.vm_rule.specs.Prelude.{did_change, did_exchange, Each, has, seat_of, stands_dirty}
use Rattle.vm_rule.specs.declared.view.WordPlace.{WordPlace}
use Rattle.vm_rule.specs.declared.view.WordPlace.TheVariants as places
use Rattle.vm_supply.specs.from_vm_rule_laws.Standing.{mapping_in, state_in}
use Rattle.vm_supply.specs.from_vm_step.{declared_took_Took_TheVariants.Lost, declared_took_Took_TheVariants.Taken, declared_took_Took.Took}
use Rattle.vm_supply.specs.from_vm_step.Prelude.{Did, first_or, GoesOnce, HasGiven, HasWritten, IsAlone, IsAside, IsAsideOf}
use Rattle.vm_supply.specs.from_vm_step.Prelude.{IsCalledOnce, IsHeld, LeavesOnly, Note, RunsAlone, Unstored, View, WritesNone}
use Rattle.vm_evict.specs.{declared.flushing.Flushed.Flushed, Evictions.HasLost, Evictions.HasTaken}
use Rattle.vm_evict.specs.Writes.{HasNotSaved, HasSaved, IsAllowed, IsFoundDirty, IsOwnPlace, StaysOn}

abbrev pub nothing_flushed : Flushed
nothing_flushed = record { written = 0; failed = 0; busy = 0; first = None }

-- how many pages were written, failed or were busy
abbrev pub done_of : Flushed → ℕ
done_of f = f.written + (f.failed + f.busy)

-- one of these steps found this word, which none of the steps before had left there
pub record HasFound (done : List Did) (at : WordPlace) (word : ℕ) : Type 0 where
  pub given : HasGiven done at word
  pub foreign : Each (λ d. d.at ≡ at → d.wrote ≢ Some word) given.earlier

-- an exchange was lost that expected the word which a step before had found there, or the mark that a step had put in its place
pub record LosesSeen (done : List Did) (at : WordPlace) (expects : ℕ) : Type 0 where
  pub lost : HasLost done at expects
  pub seen : ℕ
  pub given : HasGiven lost.earlier at seen
  pub expected : (expects ≡ seen) ⊎ ((expects ≡ word_of MARKED (version_of seen)) × HasWritten lost.earlier at expects)

-- the step that marks page p, which a look found with this word, locked by nobody; none where it was marked already
abbrev pub mark_steps : ℕ → ℕ → List Did
mark_steps p word = if state_of word == MARKED then [] else did_exchange (places.State p) word word (word_of MARKED (version_of word)) ∷ []

-- the steps that share page p from its mark at this word's version, and give the share up where the state word is the one found
abbrev pub share_steps : ℕ → ℕ → ℕ → List Did
share_steps p word found =
    did_exchange (places.State p) (word_of MARKED (version_of word)) (word_of MARKED (version_of word)) (word_of 1 (version_of word))
    ∷ did_change (places.State p) found (found - 2 ^ 56) ∷ []

-- page p, which a look found with this word, locked by nobody, and a load found dirty, was shared at its version,
-- from its mark: it was marked
-- already, or marked then; and the share was given up. No other step left a word in its state word: none takes a mark away, or a version
pub record SharesSeen (p word : ℕ) (done : List Did) : Type 0 where
  pub taken : HasTaken done (places.State p) (word_of MARKED (version_of word)) (word_of 1 (version_of word))
  pub looked : HasFound taken.earlier (places.State p) word
  pub why : (frame : ℕ) × IsFoundDirty p frame taken.earlier
  pub from : (state_of word ≡ MARKED)
      ⊎ ((state_of word ≡ UNLOCKED) × HasTaken taken.earlier (places.State p) word (word_of MARKED (version_of word)))
  pub only : (found : ℕ) × LeavesOnly (places.State p) (mark_steps p word ++ share_steps p word found) done

-- the page of the first of these notes
abbrev pub first_noted : List Note → Option ℕ
first_noted [] = None
first_noted (n ∷ ns) = Some n.page

-- the notes are of pages from `low` on and below `high`, each of a greater one than the note before
abbrev pub RisesFrom : ℕ → ℕ → List Note → Type 0
RisesFrom low high [] = low ≤ high
RisesFrom low high (n ∷ ns) = (low ≤ n.page) × (n.page < high) × RisesFrom (n.page + 1) high ns

-- the pages of the notes
abbrev pub noted_pages : List Note → List ℕ
noted_pages [] = []
noted_pages (n ∷ ns) = n.page ∷ noted_pages ns

module _ {X : Type 0} where
  -- all steps are on words of page p, and none released it; nothing of the page changed but its open read, the pass's
  -- frames are as they were, and
  -- nothing was released
  pub record KeepsPage (p : ℕ) (done : List Did) (v w : View X) : Type 0 where
    pub own : StaysOn p done
    pub unreleased : Unstored p done
    pub aside : IsAside p done v w
    pub frames : (w.frames ≡ v.frames) × (w.contents ≡ v.contents)
    pub alone : RunsAlone done [] v w

  -- its write failed: it was shared at the version of the look, and found dirty under the share, which was given up;
  -- its block went out once;
  -- its translation word stays; the fault was noted, with the count that the fault word was raised to
  pub record IsUnwritten (p word count : ℕ) (done : List Did) (v w : View X) : Type 0 where
    pub shared : SharesSeen p word done
    pub dirty : (frame : ℕ) × IsFoundDirty p frame shared.taken.later
    pub block : GoesOnce p done
    pub kept : WritesNone (places.Translation p) done
    pub raised : HasWritten done (places.Fault p) count
    pub noted : w.notes ≡ v.notes ++ record { page = p; count = count } ∷ []
    pub allowed : IsAllowed v.start p count

  -- page p was not written, and no fault was noted
  pub record IsLeft (p : ℕ) (done : List Did) (v w : View X) : Type 0 where
    pub keeps : KeepsPage p done v w
    pub notes : w.notes ≡ v.notes
    pub unsaved : HasNotSaved p done

  -- what the visit of page p comes to; one that is left as clean was seen locked by nobody, and its state word was
  -- not written, or it was shared for
  -- the dirty word found first; an exchange is lost only on a page that was found dirty, and then no step but a mark
  -- left its state word another
  pub data FlushVisits (p : ℕ) (v w : View X) (old new : Flushed) : Type 0 where
    gone :
        (done : List Did) (word : ℕ) → IsLeft p done v w → WritesNone (places.State p) done
        → HasGiven done (places.State p) word → state_of word ≡ EVICTED → new ≡ old → FlushVisits p v w old new
    clean :
        (done : List Did) (word : ℕ) → IsLeft p done v w → HasGiven done (places.Translation p) word
        → stands_dirty (mapping_of word) ≡ false
        → (seen : ℕ) → HasGiven done (places.State p) seen → (state_of seen ≡ UNLOCKED) ⊎ (state_of seen ≡ MARKED)
        → WritesNone (places.State p) done ⊎ SharesSeen p seen done → new ≡ old → FlushVisits p v w old new
    held :
        (done : List Did) (word : ℕ) → IsLeft p done v w → WritesNone (places.State p) done
        → HasFound done (places.State p) word → IsHeld word → new ≡ record old { busy = old.busy + 1 } → FlushVisits p v w old new
    lost :
        (done : List Did) (word : ℕ) → IsLeft p done v w → (l : LosesSeen done (places.State p) word)
        → (frame : ℕ) × IsFoundDirty p frame l.lost.earlier
        → WritesNone (places.State p) done ⊎ LeavesOnly (places.State p) (mark_steps p l.seen) done
        → new ≡ record old { busy = old.busy + 1 } → FlushVisits p v w old new
    written :
        (done : List Did) (frame word : ℕ) → KeepsPage p done v w → w.notes ≡ v.notes
        → (s : SharesSeen p word done) → HasSaved p frame s.taken.later done
        → new ≡ record old { written = old.written + 1 } → FlushVisits p v w old new
    failed :
        (done : List Did) (word count : ℕ) → KeepsPage p done v w → IsUnwritten p word count done v w
        → new ≡ record old { failed = old.failed + 1; first = first_or old.first p } → FlushVisits p v w old new

  -- the first n pages, one after another
  abbrev pub Flushes : ℕ → View X → View X → Flushed → Type 0
  Flushes zero v w report = (w ≡ v) × (report ≡ nothing_flushed)
  Flushes (suc n) v w report = (x : View X) × (old : Flushed) × Flushes n v x old × FlushVisits n x w old report

  -- the notes that came with the failed pages: one for each, by rising number; the first is of the least
  pub record IsNoted (pages : ℕ) (report : Flushed) (v w : View X) : Type 0 where
    pub notes : List Note
    pub after : w.notes ≡ v.notes ++ notes
    pub each : length notes ≡ report.failed
    pub rises : RisesFrom 0 pages notes
    pub first : report.first ≡ first_noted notes
    pub allowed : Each (λ n. IsAllowed v.start n.page n.count) notes

  -- it has no share of page p, so no write-back either, and no exclusive lock
  abbrev pub HasNoLock : View X → ℕ → Type 0
  HasNoLock v p = ((seat_of v p).exclusive ≡ false) × ((seat_of v p).shares ≡ 0)

  -- the view's snapshot shows page p evicted; or locked by nobody, so resident (`pages_stand_as_the_snapshot_shows`), and not dirty
  abbrev pub IsSaved : View X → ℕ → Type 0
  IsSaved v p =
      (state_in v.start v.snapshot p ≡ EVICTED)
      ⊎ (((state_in v.start v.snapshot p ≡ UNLOCKED) ⊎ (state_in v.start v.snapshot p ≡ MARKED))
      × (stands_dirty (mapping_in v.start v.snapshot p) ≡ false))

  -- what the flush of the first n pages by a pass that is alone comes to: no page is busy, none is released, and each
  -- is saved, or its write failed
  pub record IsFlushedAlone (n : ℕ) (report : Flushed) (notes : List Note) (v w : View X) : Type 0 where
    pub busy : report.busy ≡ 0
    pub releases : w.releases ≡ v.releases
    pub pages : (p : ℕ) → p < n → IsSaved w p ⊎ (has p (noted_pages notes) ≡ true)

  -- what a flush of the first n pages did: no frame of the pass changed, no lock is kept, and the device faults were noted
  pub record IsFlushedTo (n : ℕ) (report : Flushed) (v w : View X) : Type 0 where
    pub each : Flushes n v w report
    pub all : done_of report ≤ n
    pub done : List Did
    -- each step was on the words of one of these pages, so none at the hand; the device of each page was called once at most
    pub own : Each (λ d. (p : ℕ) × (p < n) × IsOwnPlace p d.at) done
    pub once : (p : ℕ) → IsCalledOnce p done
    pub aside : IsAsideOf (λ p. p < v.start.pages) done v w
    pub frames : (w.frames ≡ v.frames) × (w.contents ≡ v.contents)
    pub noted : IsNoted n report v w
    pub alone : IsAlone v → ((p : ℕ) → p < v.start.pages → HasNoLock v p) → IsFlushedAlone n report noted.notes v w

  abbrev pub IsFlushed : Flushed → View X → View X → Type 0
  IsFlushed report v w = IsFlushedTo v.start.pages report v w

  -- ---- the parts of a visit

  -- what the visit of page p by a pass that is alone, and has not locked it, comes to: it is not busy, and it is saved, or its write failed
  pub record IsSettled (p : ℕ) (w : View X) (old new : Flushed) : Type 0 where
    pub busy : new.busy ≡ old.busy
    pub saved : IsSaved w p ⊎ (new.failed ≡ old.failed + 1)

  -- the visit of page p
  pub record IsVisit (p : ℕ) (v w : View X) (old new : Flushed) : Type 0 where
    pub ends : FlushVisits p v w old new
    pub settles : IsAlone v → HasNoLock v p → IsSettled p w old new

  -- the page was marked already, or a mark was tried: set, or lost to another word
  abbrev pub Marks : ℕ → ℕ → View X → View X → Took → Type 0
  Marks p word v w Taken =
      (done : List Did) × IsLeft p done v w
      × (((done ≡ []) × (state_of word ≡ MARKED))
      ⊎ ((done ≡ did_exchange (places.State p) word word (word_of MARKED (version_of word)) ∷ []) × (state_of word ≡ UNLOCKED)))
  Marks p word v w (Lost found) =
      (found ≢ word) × IsLeft p (did_exchange (places.State p) word found (word_of MARKED (version_of word)) ∷ []) v w

-- what became of the write of page p was counted
abbrev pub IsCounted : ℕ → Result Bool ℕ → Flushed → Flushed → Type 0
IsCounted p (Ok false) old new = new ≡ old
IsCounted p (Ok true) old new = new ≡ record old { written = old.written + 1 }
IsCounted p (Err count) old new = new ≡ record old { failed = old.failed + 1; first = first_or old.first p }
