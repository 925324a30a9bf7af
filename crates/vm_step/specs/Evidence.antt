-- What the steps of a call, as its pass's log has them, say of the words that the call answers with.
use Rattle.std.specs.Prelude.{[], ◌++◌, ◌<◌, ◌∷◌, ◌≡◌, ◌≢◌, ◌≤◌, ◌⊎◌, List, None, Some, ℕ}
use Rattle.vm_event.specs.Prelude.{EVICTED, LOCKED, MAX_VERSION, state_of, UNLOCKED, version_of, word_of}
use Rattle.vm_rule.specs.{declared.view.Did.Did, declared.view.WordPlace.WordPlace, Prelude.Each}
use Rattle.vm_rule.specs.declared.view.WordPlace.TheVariants as places
use Rattle.vm_step.specs.{declared.saw.At.At, declared.saw.Saw.Saw}
use Rattle.vm_step.specs.declared.saw.At.TheVariants as ats

abbrev pub place_at : At → WordPlace
place_at (ats.Page p) = places.State p
place_at (ats.Bundle g) = places.Bundle g
place_at ats.Next = places.Next
place_at (ats.Free g) = places.Spare g

-- the step found this word there
abbrev pub Gives : Did → WordPlace → ℕ → Type 0
Gives d at word = (d.at ≡ at) × (d.found ≡ Some word)

-- one of the steps found it
pub record HasGiven (done : List Did) (at : WordPlace) (word : ℕ) : Type 0 where
  pub earlier : List Did
  pub step : Did
  pub later : List Did
  pub cut : done ≡ earlier ++ step ∷ later
  pub gives : Gives step at word

-- the step is a load
abbrev pub IsLoad : Did → Type 0
IsLoad d = (d.expects ≡ None) × (d.wrote ≡ None)

-- an exchange that expected one word found the other, and left it
pub record IsLost (d : Did) (at : WordPlace) (expects found : ℕ) : Type 0 where
  pub gives : Gives d at found
  pub expected : d.expects ≡ Some expects
  pub other : found ≢ expects
  pub left : d.wrote ≡ None

-- no word was known before the call
abbrev pub NoWord : ℕ → Type 0
NoWord word = ⊥

-- the steps neither wrote the word there nor stored a next version
abbrev pub AreQuiet : WordPlace → ℕ → List Did → Type 0
AreQuiet at seen done = Each (λ d. d.at ≡ at → (d.wrote ≢ Some seen) × (d.found ≡ None → d.wrote ≡ None)) done

-- no word is expected in the place of another
abbrev pub NoneExpected : ℕ → ℕ → Type 0
NoneExpected word first = ⊥

-- a word with shares was read, and Unlocked at its version is expected
abbrev pub UnlockedExpected : ℕ → ℕ → Type 0
UnlockedExpected word first = (1 ≤ state_of word) × (state_of word < LOCKED) × (first ≡ word_of UNLOCKED (version_of word))

-- a word that is not Evicted was read, and Evicted at its version is expected
abbrev pub EvictedExpected : ℕ → ℕ → Type 0
EvictedExpected word first = (state_of word ≢ EVICTED) × (first ≡ word_of EVICTED (version_of word))

-- where the first word is from, and the steps since: a guard kept it; this call read it, by a step that left no word
-- there; the last step, an
-- exchange, expects it in the place of a word that this call read, or that a guard kept; or it is the last word itself
pub data Begins (kept : ℕ → Type 0) (expects : ℕ → ℕ → Type 0) (at : WordPlace) (first seen : ℕ) (last : Did)
    (earlier since : List Did) : Type 0 where
  guarded : kept first → earlier ≡ since → Begins kept expects at first seen last earlier since
  read : (before : List Did) (d : Did) → earlier ≡ before ++ d ∷ since → Gives d at first → d.wrote ≡ None
      → Begins kept expects at first seen last earlier since
  expected : (before : List Did) (d : Did) (word : ℕ) → earlier ≡ before ++ d ∷ since → Gives d at word
      → d.wrote ≡ None → expects word first →
      last.expects ≡ Some first → Begins kept expects at first seen last earlier since
  asked : (word : ℕ) → kept word → earlier ≡ since → expects word first → last.expects ≡ Some first
      → Begins kept expects at first seen last earlier since
  same : first ≡ seen → since ≡ [] → Begins kept expects at first seen last earlier since

-- why the call may be tried again
abbrev pub WhyAgain : At → ℕ → ℕ → Did → Type 0
WhyAgain (ats.Page p) first seen last =
    (version_of first ≢ version_of seen) ⊎ ((state_of seen ≡ LOCKED) ⊎ IsLost last (places.State p) first seen)
WhyAgain (ats.Bundle g) first seen last = IsLost last (places.Bundle g) first seen
WhyAgain ats.Next first seen last = first ≢ seen
WhyAgain (ats.Free g) first seen last = IsLost last (places.Spare g) first seen

-- the words are the evidence of these steps; none before the last left the word that it found
pub record IsSaw (kept : ℕ → Type 0) (expects : ℕ → ℕ → Type 0) (done : List Did) (saw : Saw) : Type 0 where
  pub earlier : List Did
  pub last : Did
  pub later : List Did
  pub cut : done ≡ earlier ++ last ∷ later
  pub gives : Gives last (place_at saw.at) saw.seen
  pub since : List Did
  pub begins : Begins kept expects (place_at saw.at) saw.first saw.seen last earlier since
  pub quiet : AreQuiet (place_at saw.at) saw.seen since
  pub foreign : Each (λ d. d.at ≡ place_at saw.at → d.wrote ≢ Some saw.seen) earlier
  pub why : WhyAgain saw.at saw.first saw.seen last

-- the page was found evicted by a load, and none of the steps before had left that word
pub record NeedsPage (done : List Did) (p : ℕ) : Type 0 where
  pub word : ℕ
  pub given : HasGiven done (places.State p) word
  pub load : IsLoad given.step
  pub evicted : state_of word ≡ EVICTED
  pub foreign : Each (λ d. d.at ≡ places.State p → d.wrote ≢ Some word) given.earlier

-- the page was found with all shares taken by a load, and none of the steps before had left that word
pub record IsCrowded (done : List Did) (p : ℕ) : Type 0 where
  pub word : ℕ
  pub given : HasGiven done (places.State p) word
  pub load : IsLoad given.step
  pub full : state_of word ≡ 252
  pub foreign : Each (λ d. d.at ≡ places.State p → d.wrote ≢ Some word) given.earlier

-- the page was found at the last version by a load, and none of the steps before had left that word
pub record IsWorn (done : List Did) (p : ℕ) : Type 0 where
  pub word : ℕ
  pub given : HasGiven done (places.State p) word
  pub load : IsLoad given.step
  pub last : version_of word ≡ MAX_VERSION
  pub foreign : Each (λ d. d.at ≡ places.State p → d.wrote ≢ Some word) given.earlier

-- one of the steps left this word there
pub record HasWritten (done : List Did) (at : WordPlace) (word : ℕ) : Type 0 where
  pub earlier : List Did
  pub step : Did
  pub later : List Did
  pub cut : done ≡ earlier ++ step ∷ later
  pub place : step.at ≡ at
  pub wrote : step.wrote ≡ Some word
