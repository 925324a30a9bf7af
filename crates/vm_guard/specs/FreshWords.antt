-- What a call for fresh pages leaves in the words of a page, by its steps: of one that it gives, and of one that it
-- gives up again. So it wastes one
-- version of a page at most, and makes no page dirty, whoever else is there.
use Rattle.std.specs.Prelude.{[], ◌+◌, ◌∷◌, ◌≡◌, ◌⊎◌, Bool, false, List, Some, ℕ}
use Rattle.vm_event.specs.Prelude.{EVICTED, trans_word, version_of, word_of}
use Rattle.vm_rule.specs.Prelude.{clean_in, did_store}
use Rattle.vm_rule.specs.declared.view.WordPlace.{WordPlace}
use Rattle.vm_step.specs.Prelude.{Did, LeavesOnly, WritesNone}
use Rattle.vm_guard.specs.LockSteps.{lock_did}

-- the word that gives up a page that was locked at this version: Unlocked or Evicted, at the next version
abbrev pub IsNextWord : ℕ → ℕ → Type 0
IsNextWord version left = (left ≡ version + 1) ⊎ (left ≡ word_of EVICTED (version + 1))

-- page q was not locked, so its word was left alone; or it was locked once, and then given up once
pub data GivesUpOnce (q : ℕ) (done : List Did) : Type 0 where
  not_locked : WritesNone (WordPlace.State q) done → GivesUpOnce q done
  given_up_once :
      (expects left : ℕ) → IsNextWord (version_of expects) left
      → LeavesOnly (WordPlace.State q) (lock_did q expects ∷ did_store (WordPlace.State q) left ∷ []) done → GivesUpOnce q done

-- the store that puts page p into this frame, clean
abbrev pub put_did : ℕ → ℕ → Did
put_did p frame = did_store (WordPlace.Translation p) (trans_word (Some (clean_in frame)))

-- the translation word of page p was left alone, so it stands where it stood; or it was put into this frame once, clean
abbrev pub PutsOnce : ℕ → ℕ → Bool → List Did → Type 0
PutsOnce p frame dirty done =
    WritesNone (WordPlace.Translation p) done ⊎ ((dirty ≡ false) × LeavesOnly (WordPlace.Translation p) (put_did p frame ∷ []) done)

-- page p was locked once, at this version, and not given up
pub record TakesOnce (p version frame : ℕ) (dirty : Bool) (done : List Did) : Type 0 where
  pub expects : ℕ
  pub at : version_of expects ≡ version
  pub locks : LeavesOnly (WordPlace.State p) (lock_did p expects ∷ []) done
  pub puts : PutsOnce p frame dirty done
