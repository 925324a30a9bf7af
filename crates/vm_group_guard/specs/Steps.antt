-- The steps of calls on a group. A step on the group's word stands in the log once for each of its pages.
use Rattle.std.specs.Prelude.{[], ◌∷◌, ◌≡◌, ◌≢◌, ◌⊎◌, List, map, None, suc, ℕ}
use Rattle.vm_event.specs.Prelude.{MARKED, state_of, UNLOCKED, version_of, word_of}
use Rattle.vm_rule.specs.Prelude.{did_exchange, did_load, Each}
use Rattle.vm_rule.specs.declared.view.WordPlace.{WordPlace}
use Rattle.vm_step.specs.Prelude.{Did}
use Rattle.vm_guard.specs.Quiet.{IsUnmark}

-- the looks that found this word
abbrev pub looks : ℕ → List ℕ → List Did
looks word qs = map (λ q. did_load (WordPlace.State q) word) qs

-- the exchanges of this word, where that one was expected, for the new one
abbrev pub exchanges : ℕ → ℕ → ℕ → List ℕ → List Did
exchanges expects found new qs = map (λ q. did_exchange (WordPlace.State q) expects found new) qs

-- the loads that found these translation words of the pages from q on
abbrev pub translation_loads : ℕ → List ℕ → List Did
translation_loads q [] = []
translation_loads q (t ∷ ts) = did_load (WordPlace.Translation q) t ∷ translation_loads (suc q) ts

-- the steps that take the mark of a group away, whose word was found: none where it was not Marked, else one exchange
-- that expects that word
abbrev pub AreUnmarkingAll : List ℕ → ℕ → List Did → Type 0
AreUnmarkingAll qs word done =
    ((state_of word ≢ MARKED) × (done ≡ []))
    ⊎ ((state_of word ≡ MARKED)
    × ((found : ℕ) × (done ≡ exchanges word found (word_of UNLOCKED (version_of word)) qs)))

-- the steps leave no word but one of which they take the mark away
abbrev pub OnlyUnmarkAll : List Did → Type 0
OnlyUnmarkAll done = Each (λ d. (d.wrote ≡ None) ⊎ IsUnmark d) done
