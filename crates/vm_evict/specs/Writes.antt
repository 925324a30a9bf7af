-- Writing a page back, which the pass has locked for that: where it is dirty, its last words go to its block, and it
-- becomes clean; or the write
-- fails, and its fault is noted. The page stays locked, and in its frame.
use Rattle.std.specs.Prelude.{[], Bool, Err, false, length, List, None, Ok, Option, Result, Some, true, ℕ, ◌++◌, ◌<◌, ◌∷◌, ◌≡◌, ◌≤◌, ◌⊎◌}
use Rattle.vm_event.specs.Prelude.{at, mapping_of, trans_word}
use Rattle.vm_rule.specs.Prelude.{clean_in, did_load, did_store, dirty_in, Each, held_at, last_of, Seat, seat_of}
use Rattle.vm_rule.specs.Prelude.{stands_dirty, TranslationTold}
use Rattle.vm_rule.specs.declared.view.WordPlace.{WordPlace}
use Rattle.vm_rule.specs.declared.view.WordPlace.TheVariants as places
use Rattle.vm_supply.specs.from_vm_step.Prelude.{Did, GoesOnce, HasGiven, HasWritten, IsAlone, IsOfPage, IsToldOf, KeepsFrames}
use Rattle.vm_supply.specs.from_vm_step.Prelude.{known_word_at, Origin, StaysHome, View, Works, WritesNone}

-- a count of faults of page p that the bound of its block allows
abbrev pub IsAllowed : Origin → ℕ → ℕ → Type 0
IsAllowed start p count = (1 ≤ count) × (count ≤ at 0 start.bounds p)

-- page p was not written: no step wrote its translation word, and its block stayed in its slot
pub record HasNotSaved (p : ℕ) (done : List Did) : Type 0 where
  pub kept : WritesNone (places.Translation p) done
  pub home : StaysHome p done

-- the frame of a dirty page, by its translation word; none where the page is not dirty
abbrev pub IsDirtyFrame : ℕ → Option ℕ → Type 0
IsDirtyFrame word None = stands_dirty (mapping_of word) ≡ false
IsDirtyFrame word (Some f) = mapping_of word ≡ Some (dirty_in f)

-- one of the steps found page p dirty in this frame
abbrev pub IsFoundDirty : ℕ → ℕ → List Did → Type 0
IsFoundDirty p frame done = (found : ℕ) × HasGiven done (places.Translation p) found × (mapping_of found ≡ Some (dirty_in frame))

-- a page's own words, and the words of frames
abbrev pub IsOwnPlace : ℕ → WordPlace → Type 0
IsOwnPlace p at = IsOfPage p at ⊎ ((f : ℕ) × (i : ℕ) × (at ≡ places.Content f i))

-- among the steps under its share page p was found dirty in this frame, and made clean there afterwards; over all
-- steps of the call its block went
-- out once
pub record HasSaved (p frame : ℕ) (under done : List Did) : Type 0 where
  pub cleaned : HasWritten under (places.Translation p) (trans_word (Some (clean_in frame)))
  pub dirty : IsFoundDirty p frame cleaned.earlier
  pub block : GoesOnce p done

-- all steps are on words of page p alone
abbrev pub StaysOn : ℕ → List Did → Type 0
StaysOn p done = Each (λ d. IsOwnPlace p d.at) done

-- a step of a write-back of page p: a load of a word of its own, the store of the word of a clean page, or of a fault word
pub data WritesPage (p : ℕ) (d : Did) : Type 0 where
  reads : IsOwnPlace p d.at → d.expects ≡ None → d.wrote ≡ None → WritesPage p d
  cleans : (frame : ℕ) → d ≡ did_store (places.Translation p) (trans_word (Some (clean_in frame))) → WritesPage p d
  raises : (count : ℕ) → d ≡ did_store (places.Fault p) count → WritesPage p d

-- a load of a word of a frame
abbrev pub IsFrameLoad : Did → Type 0
IsFrameLoad d = (f : ℕ) × (i : ℕ) × (found : ℕ) × (d ≡ did_load (places.Content f i) found)

-- the pass's locks of a page under write-back
abbrev pub writing_seat : Seat
writing_seat = record { shares = 1; exclusive = false; writing = true; reading = None }

module _ {X : Type 0} where
  -- the pass has page p under write-back, as the lock leaves it
  pub record IsUnderWriteBack (p : ℕ) (v : View X) : Type 0 where
    pub seat : seat_of v p ≡ writing_seat
    pub told : IsToldOf v p
    pub size : length (last_of v p).words ≡ v.start.size
    pub home : v.out ≡ None

  -- the pass had page p under write-back at v, and a load of its translation word, which led on from there, found it dirty in frame f
  pub record IsFoundToWrite (p f : ℕ) (v w : View X) : Type 0 where
    pub under : IsUnderWriteBack p v
    pub word : ℕ
    pub load : TranslationTold p word v w
    pub dirty : mapping_of word ≡ Some (dirty_in f)

  -- the pass still has page p under write-back, after these steps of a write-back, and may give it up
  pub record IsStillLocked (p : ℕ) (done : List Did) (v w : View X) : Type 0 where
    pub works : Works p done v w
    pub does : Each (WritesPage p) done
    pub reads : w.translations ≡ v.translations
    pub told : IsToldOf w p
    pub home : w.out ≡ None
    pub frames : (w.frames ≡ v.frames) × (w.contents ≡ v.contents)

  -- words of a frame were loaded, of page p, which is shared and read by no open read; all else is as it was
  pub record CopiesWords (p : ℕ) (v w : View X) : Type 0 where
    pub done : List Did
    pub works : Works p done v w
    pub loads : Each IsFrameLoad done
    pub reads : w.translations ≡ v.translations
    pub held : held_at w p ≡ held_at v p
    pub keeps : KeepsFrames v w
    pub out : w.out ≡ v.out

  -- so were the page's last words
  pub record IsCopied (p : ℕ) (words : List ℕ) (v w : View X) : Type 0 where
    pub from : CopiesWords p v w
    pub same : v.start.tells ≡ true → words ≡ (last_of v p).words

  -- a pass that is alone knows that the page is clean
  abbrev pub KnowsClean : ℕ → View X → View X → Type 0
  KnowsClean p v w = IsAlone v → p < v.start.pages → stands_dirty (mapping_of (known_word_at w (places.Translation p))) ≡ false

  -- it was found clean, and nothing was written
  pub record IsFoundClean (p : ℕ) (v w : View X) : Type 0 where
    pub done : List Did
    pub locked : IsStillLocked p done v w
    pub silent : Each (λ d. d.wrote ≡ None) done
    pub stays : StaysHome p done
    pub word : ℕ
    pub given : HasGiven done (places.Translation p) word
    pub clean : stands_dirty (mapping_of word) ≡ false
    pub said : mapping_of word ≡ (held_at w p).mapping
    pub held : held_at w p ≡ held_at v p
    pub known : KnowsClean p v w
    pub notes : w.notes ≡ v.notes

  -- it was found dirty, written, and made clean
  pub record IsSavedNow (p : ℕ) (v w : View X) : Type 0 where
    pub done : List Did
    pub locked : IsStillLocked p done v w
    pub frame : ℕ
    pub saved : HasSaved p frame done done
    pub unraised : WritesNone (places.Fault p) done
    pub stands : (held_at w p).mapping ≡ Some (clean_in frame)
    pub known : KnowsClean p v w
    pub notes : w.notes ≡ v.notes

  -- it was found dirty, and its write failed: the fault was noted, with the count that the fault word was raised to
  pub record IsLeftDirty (p count : ℕ) (v w : View X) : Type 0 where
    pub done : List Did
    pub locked : IsStillLocked p done v w
    pub frame : ℕ
    pub dirty : IsFoundDirty p frame done
    pub block : GoesOnce p done
    pub kept : WritesNone (places.Translation p) done
    pub raised : HasWritten done (places.Fault p) count
    pub ends : raised.later ≡ []
    pub noted : w.notes ≡ v.notes ++ record { page = p; count = count } ∷ []
    pub allowed : IsAllowed v.start p count

  -- how the write of a dirty page ends
  abbrev pub WritesBack : ℕ → View X → View X → Result (Unit {0}) ℕ → Type 0
  WritesBack p v w (Ok u) = IsSavedNow p v w
  WritesBack p v w (Err count) = IsLeftDirty p count v w

  -- how the write of a page under write-back ends: whether it was written, or the count of the fault
  abbrev pub EndsWrite : ℕ → View X → View X → Result Bool ℕ → Type 0
  EndsWrite p v w (Ok false) = IsFoundClean p v w
  EndsWrite p v w (Ok true) = IsSavedNow p v w
  EndsWrite p v w (Err count) = IsLeftDirty p count v w
