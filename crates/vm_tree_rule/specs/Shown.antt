-- The evidence of a call that may be tried again: what its log, from the call's first step on, shows of the words that it answers with.
use Rattle.std.specs.Prelude.{◌++◌, ◌∷◌, ◌≡◌, List, ℕ}
use Rattle.vm_step.specs.Prelude.{AreQuiet, Begins, Did, NoneExpected, NoWord, place_at, View, WhyAgain}
use Rattle.vm_step.specs.{declared.saw.Saw.Saw, Evidence.Gives}
use Rattle.vm_step.specs.declared.saw.At.TheVariants as ats

-- these are the steps of a call from its first one on. The call read the word seen; it read the first word before, or
-- an exchange of it expects
-- that in the place of one that it read; and between the two it neither wrote the word seen nor raised a version there
pub record IsSeen (expects : ℕ → ℕ → Type 0) (done : List Did) (saw : Saw) : Type 0 where
  pub earlier : List Did
  pub last : Did
  pub later : List Did
  pub cut : done ≡ earlier ++ last ∷ later
  pub gives : Gives last (place_at saw.at) saw.seen
  pub since : List Did
  pub begins : Begins NoWord expects (place_at saw.at) saw.first saw.seen last earlier since
  pub quiet : AreQuiet (place_at saw.at) saw.seen since
  pub why : WhyAgain saw.at saw.first saw.seen last

module _ {X : Type 0} where
  -- the steps from v to w show it of the state word of a page
  pub record IsShown (expects : ℕ → ℕ → Type 0) (v : View X) (saw : Saw) (w : View X) : Type 0 where
    pub done : List Did
    pub log : w.log ≡ v.log ++ done
    pub page : ℕ
    pub at : saw.at ≡ ats.Page page
    pub seen : IsSeen expects done saw

  -- a page could not be read: as its read began, or as the read that began in this call was validated
  abbrev pub IsAgain : View X → Saw → View X → Type 0
  IsAgain v saw w = IsShown NoneExpected v saw w
