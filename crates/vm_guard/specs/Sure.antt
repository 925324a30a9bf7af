-- What a pass that is alone knows of a page, with which a call on the page is sure to succeed; and what it knows of the table afterwards.
use Rattle.std.specs.Prelude.{[], false, ◌*◌, ◌+◌, ◌<◌, ◌==◌, ◌∷◌, ◌≡◌, ◌≢◌, ◌≤◌, ◌⊎◌, if◌then◌else◌, List, slice_set, true, ℕ}
use Rattle.vm_event.specs.Words.{bit_count}
use Rattle.vm_event.specs.Prelude.{AreLowest, EVICTED, in_mask, LOCKED, MARKED, MAX_VERSION, state_of, UNLOCKED, version_of, word_of}
use Rattle.vm_page.specs.Pages.{all_zero}
use Rattle.vm_rule.specs.Prelude.{index_of, IsLocking, last_of, seat_of}
use Rattle.vm_rule.specs.declared.view.WordPlace.{WordPlace}
use Rattle.vm_step.specs.Prelude.{IsAlone, known_word_at, LocksNone, Origin, View}
use Rattle.vm_guard.specs.Spares.{known_spare, KnowsFew}

-- the page with this word is resident, and locked by nobody
abbrev pub IsUnlockedWord : ℕ → Type 0
IsUnlockedWord word = (state_of word ≡ UNLOCKED) ⊎ (state_of word ≡ MARKED)

-- a page with this word can be locked, resident or not
abbrev pub MayBeSeized : ℕ → Type 0
MayBeSeized word = (IsUnlockedWord word ⊎ (state_of word ≡ EVICTED)) × (version_of word < MAX_VERSION)

-- the word without its mark
abbrev pub unmarked_word : ℕ → ℕ
unmarked_word word = if state_of word == MARKED then word_of UNLOCKED (version_of word) else word

-- the table's words, but those at these places, which are these
abbrev pub words_with : Origin → List (WordPlace × ℕ) → List ℕ → List ℕ
words_with start [] words = words
words_with start (d ∷ ds) words = words_with start ds (slice_set words (index_of start d.0) d.1)

module _ {X : Type 0} where
  -- the word of page p, as the pass knows the table
  abbrev pub known_word : ℕ → View X → ℕ
  known_word p v = known_word_at v (WordPlace.State p)

  -- the pass knows page p to be resident, and locked by nobody
  abbrev pub IsKnownFree : ℕ → View X → Type 0
  IsKnownFree p v = IsUnlockedWord (known_word p v)

  -- the pass knows page p to be at the version of this word, and not locked exclusively
  abbrev pub IsKnownAt : ℕ → ℕ → View X → Type 0
  IsKnownAt p word v = (version_of (known_word p v) ≡ version_of word) × (state_of (known_word p v) ≢ LOCKED)

  -- the next word, as the pass knows the table
  abbrev pub known_next : View X → ℕ
  known_next v = known_word_at v WordPlace.Next

  -- the pass knows that there are n pages from the next one on, and that each can be locked
  pub record MayBeClaimed (n : ℕ) (v : View X) : Type 0 where
    pub room : known_next v + n ≤ v.start.pages
    pub each : (q : ℕ) → known_next v ≤ q → q < known_next v + n → MayBeSeized (known_word q v)

  -- the pass knows that there are n pages from the next one on, and that each is locked by nobody
  pub record MayTryClaim (n : ℕ) (v : View X) : Type 0 where
    pub room : known_next v + n ≤ v.start.pages
    pub each : (q : ℕ) → known_next v ≤ q → q < known_next v + n → LocksNone (known_word q v)

  -- the pages of the mask over free-number word g have such words, as the pass knows the table
  abbrev pub FreePagesHave : (ℕ → Type 0) → ℕ → ℕ → View X → Type 0
  FreePagesHave P g mask v = (q : ℕ) → in_mask g mask q ≡ true → P (known_word q v)

  -- the pass has page q locked, and its last words are not all 0, as its block tells; so the page's number is not free
  abbrev pub HoldsUsed : View X → ℕ → Type 0
  HoldsUsed v q = (v.start.tells ≡ true) × IsLocking (seat_of v q) × (all_zero (last_of v q).words ≡ false)

  -- each page of the mask is locked by nobody, as the pass knows the table, or is one that it has locked itself, and
  -- whose number is not free
  abbrev pub FreePagesTried : ℕ → ℕ → View X → Type 0
  FreePagesTried g mask v = (q : ℕ) → q < v.start.pages → in_mask g mask q ≡ true → LocksNone (known_word q v) ⊎ HoldsUsed v q

  -- this is so of the n lowest bits of the first free-number word with so many
  abbrev pub FirstFreeHave : (ℕ → ℕ → Type 0) → ℕ → View X → Type 0
  FirstFreeHave P n v = (g mask : ℕ) → g * 64 < v.start.pages → KnowsFew n g v → n ≤ bit_count (known_spare g v)
      → AreLowest (known_spare g v) n mask → P g mask

  -- of the pages that a call for n fresh ones takes, the pass knows that each can be locked: those of the first
  -- free-number word with n bits, or else the next
  pub record MayBeGiven (n : ℕ) (v : View X) : Type 0 where
    pub free : FirstFreeHave (λ g mask. FreePagesHave MayBeSeized g mask v) n v
    pub next : KnowsFew n v.start.pages v → MayBeClaimed n v

  -- or that each is locked by nobody
  pub record MayBeTried (n : ℕ) (v : View X) : Type 0 where
    pub free : FirstFreeHave (λ g mask. FreePagesTried g mask v) n v
    pub next : KnowsFew n v.start.pages v → MayTryClaim n v

  -- it knows them as they were, but for the word of page p, which is this one
  abbrev pub KnowsBut : ℕ → ℕ → View X → View X → Type 0
  KnowsBut p word v w = IsAlone v → w.snapshot.words ≡ slice_set v.snapshot.words (index_of v.start (WordPlace.State p)) word

  -- it knows the state words of all pages as they were
  abbrev pub KnowsStates : View X → View X → Type 0
  KnowsStates v w = IsAlone v → (q : ℕ) → q < v.start.pages → known_word q w ≡ known_word q v
