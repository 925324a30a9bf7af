-- Pages whose numbers are free: how a call for fresh pages looks for them in the free-number words, from the first
-- one on, and what it leaves of them.
use Rattle.std.specs.Prelude.{[], ◌*◌, ◌+◌, ◌<◌, ◌∷◌, ◌≡◌, ◌≤◌, length, List, ℕ}
use Rattle.vm_event.specs.Words.{bit_count}
use Rattle.vm_rule.specs.FreeNumbers.{SpareTold}
use Rattle.vm_rule.specs.Prelude.{did_load}
use Rattle.vm_rule.specs.declared.view.WordPlace.{WordPlace}
use Rattle.vm_step.specs.Prelude.{Did, known_word_at, View}

-- the loads that find these words, from word g on
abbrev pub spare_loads : ℕ → List ℕ → List Did
spare_loads g [] = []
spare_loads g (x ∷ xs) = did_load (WordPlace.Spare g) x ∷ spare_loads (g + 1) xs

module _ {X : Type 0} where
  -- loads found these words, from word g on, each with fewer than n bits; nothing else was done
  abbrev pub FindsFew : ℕ → ℕ → List ℕ → View X → View X → Type 0
  FindsFew n g [] v w = w ≡ v
  FindsFew n g (x ∷ xs) v w = (u : View X) × (bit_count x < n) × SpareTold g x v u × FindsFew n (g + 1) xs u w

  -- all free-number words were loaded once, and each had fewer than n bits
  pub record FindsAllFew (n : ℕ) (v w : View X) : Type 0 where
    pub found : List ℕ
    pub all : (v.start.pages ≤ length found * 64) × (length found * 64 < v.start.pages + 64)
    pub few : FindsFew n 0 found v w

  -- free-number word g is the first that had n bits at least: it was found to be `word`
  pub record FindsSome (n g word : ℕ) (v w : View X) : Type 0 where
    pub inside : g * 64 < v.start.pages
    pub enough : n ≤ bit_count word
    pub earlier : List ℕ
    pub count : length earlier ≡ g
    pub between : View X
    pub few : FindsFew n 0 earlier v between
    pub loaded : SpareTold g word between w

  -- free-number word g, as the pass knows the table
  abbrev pub known_spare : ℕ → View X → ℕ
  known_spare g v = known_word_at v (WordPlace.Spare g)

  -- the pass knows each free-number word below this one to have fewer than n bits
  abbrev pub KnowsFew : ℕ → ℕ → View X → Type 0
  KnowsFew n below v = (g : ℕ) → g < below → g * 64 < v.start.pages → bit_count (known_spare g v) < n
