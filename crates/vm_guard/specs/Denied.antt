-- What a call answers that gives no guard, or ends without what it was asked for: the evidence of its steps, and that
-- the pass holds what it held.
use Rattle.std.specs.Prelude.{◌≡◌, ◌⊎◌, List, true, ℕ}
use Rattle.vm_step.specs.Prelude.{Did, IsSaw, IsWorn, KnowsSame, NeedsPage, UnlockedExpected, View}
use Rattle.vm_step.specs.declared.saw.At.{At}
use Rattle.vm_step.specs.Evidence.{IsCrowded}
use Rattle.vm_guard.specs.{declared.deny.Deny.Deny, Quiet.IsQuiet, Quiet.OnlyUnmarks}

-- the steps of the call show why; `kept` tells the words that the call had before its first step, and `expects` which
-- word an exchange of it
-- may expect in the place of one that was read
abbrev pub IsEvidence : (ℕ → Type 0) → (ℕ → ℕ → Type 0) → List Did → ℕ → Deny → Type 0
IsEvidence kept expects done p (Deny.Again saw) = (saw.at ≡ At.Page p) × IsSaw kept expects done saw
IsEvidence kept expects done p (Deny.Need q) = (q ≡ p) × NeedsPage done p
IsEvidence kept expects done p (Deny.Crowded q) = (q ≡ p) × IsCrowded done p
IsEvidence kept expects done p (Deny.Worn q) = (q ≡ p) × IsWorn done p

-- the guard kept this word
abbrev pub KeptWord : ℕ → ℕ → Type 0
KeptWord kept word = word ≡ kept

-- the word that a lock expects where this one was kept or read: that one, or Unlocked at its version, where it had shares
abbrev pub SameOrUnlocked : ℕ → ℕ → Type 0
SameOrUnlocked word expects = (expects ≡ word) ⊎ UnlockedExpected word expects

-- the kinds of answers: of the start of an optimistic guard, of a shared one, of an exclusive one, and of an upgrade
abbrev pub AgainOrNeed : Deny → Type 0
AgainOrNeed (Deny.Again saw) = Unit {0}
AgainOrNeed (Deny.Need q) = Unit {0}
AgainOrNeed d = ⊥

-- of a shared guard: Again, Need or Crowded
abbrev pub NotWorn : Deny → Type 0
NotWorn (Deny.Worn q) = ⊥
NotWorn d = Unit {0}

-- of an exclusive guard: Again, Need or Worn
abbrev pub NotCrowded : Deny → Type 0
NotCrowded (Deny.Crowded q) = ⊥
NotCrowded d = Unit {0}

-- of an upgrade: Again or Worn
abbrev pub AgainOrWorn : Deny → Type 0
AgainOrWorn (Deny.Again saw) = Unit {0}
AgainOrWorn (Deny.Worn q) = Unit {0}
AgainOrWorn d = ⊥

-- nothing but that the page is worn
abbrev pub OnlyWorn : Deny → Type 0
OnlyWorn (Deny.Worn q) = Unit {0}
OnlyWorn d = ⊥

module _ {X : Type 0} where
  -- the call of page p was denied, with evidence, by an answer of an allowed kind
  pub record IsDenied (allowed : Deny → Type 0) (kept : ℕ → Type 0) (expects : ℕ → ℕ → Type 0) (p : ℕ) (deny : Deny)
      (v w : View X) : Type 0 where
    pub done : List Did
    pub quiet : IsQuiet p done v w
    pub evidence : IsEvidence kept expects done p deny
    pub kind : allowed deny
    pub table : KnowsSame v w
    -- the call left no word but the page's, whose mark it may have taken away
    pub leaves : OnlyUnmarks p done
    pub current : w.current ≡ true
