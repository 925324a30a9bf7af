-- What a pass that is alone has to know of the table, so that a call on the tree is sure to be answered; and what it
-- knows then of a page that it reads.
use Rattle.std.specs.Prelude.{◌<◌, ◌≡◌, suc, true, zero, ℕ}
use Rattle.vm_event.specs.Prelude.{LOCKED, state_of}
use Rattle.vm_step.specs.Prelude.{IsAlone, KnowsUnheld, View}
use Rattle.vm_kind.specs.from_vm_guard.Sure.{IsUnlockedWord, known_next, known_word}

-- the page with this word is resident, nobody has it exclusively, and it has just so many shares
abbrev pub IsReadableWord : ℕ → ℕ → Type 0
IsReadableWord zero word = IsUnlockedWord word
IsReadableWord (suc n) word = (state_of word ≡ suc n) × (suc n < LOCKED)

module _ {X : Type 0} where
  -- the pass is alone, and knows each page below the next one to be readable so, with these shares
  pub record KnowsReadable (shares : ℕ → ℕ) (v : View X) : Type 0 where
    pub alone : IsAlone v
    pub each : (q : ℕ) → q < known_next v → q < v.start.pages → IsReadableWord (shares q) (known_word q v)

  -- it does, and knows this word for the word of page p, which is readable, and below the next one
  pub record IsReadNow (shares : ℕ → ℕ) (p word : ℕ) (v : View X) : Type 0 where
    pub resident : KnowsReadable shares v
    pub known : known_word p v ≡ word
    pub free : IsReadableWord (shares p) word
    pub below : p < known_next v

  -- the pass is alone, and knows each page below the next one to be resident, and locked by nobody
  abbrev pub KnowsResident : View X → Type 0
  KnowsResident v = KnowsReadable (λ _. 0) v

  -- it does, and knows this word for the word of page p, which is free, and below the next one
  abbrev pub IsKnownNow : ℕ → ℕ → View X → Type 0
  IsKnownNow p word v = IsReadNow (λ _. 0) p word v

  -- the pass knows the table as it is; where it is alone it knows a page that it neither holds nor shares to be locked by nobody
  pub record KnowsLocks (w : View X) : Type 0 where
    pub current : w.current ≡ true
    pub unheld : KnowsUnheld w
