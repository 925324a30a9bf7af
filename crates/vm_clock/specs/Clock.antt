-- How the clock chooses candidates for eviction: from a place drawn from the hand it walks over the frames, round and
-- round, loads each frame's
-- owner word, looks at the page that the word names, and counts what it sees by the first of these that fits: a frame
-- with no page; a page chosen
-- before; an evicted one; one that somebody has locked; one at the last version; an unlocked one, which it marks; a
-- marked one, which it chooses.
use Rattle.std.specs.Prelude.{[], false, if◌then◌else◌, length, List, nat_lt, None, suc, true, zero, ℕ, ◌%◌, ◌&&◌}
use Rattle.std.specs.Prelude.{◌*◌, ◌++◌, ◌+◌, ◌<◌, ◌==◌, ◌∷◌, ◌≡◌, ◌≢◌, ◌≤◌, ◌⊎◌}
use Rattle.vm_event.specs.Prelude.{EVICTED, hand_more, MARKED, MAX_VERSION, state_of, UNLOCKED, version_of, word_of}
use Rattle.vm_supply.specs.from_vm_rule.Prelude.{did_change, did_exchange, did_load, has}
use Rattle.vm_supply.specs.from_vm_rule.declared_view_WordPlace.{WordPlace}
use Rattle.vm_supply.specs.from_vm_rule.declared_view_WordPlace_TheVariants as places
use Rattle.vm_supply.specs.from_vm_step.Prelude.{candidate_pages, Did, first_or, HasGiven, IsAlone, IsAside, IsAsideOf, IsHeld}
use Rattle.vm_supply.specs.from_vm_step.Prelude.{KeepsFrames, known_word_at, KnowsAt, KnowsElse, RunsAlone, View}
use Rattle.vm_supply.specs.from_vm_step.declared_choice_Looks.{Looks}

-- a count of no look
abbrev pub no_looks : Looks
no_looks = record { found = 0; again = 0; marked = 0; lost = 0; held = 0; gone = 0; worn = 0; first_worn = None }

-- how many looks are counted
abbrev pub looks_counted : Looks → ℕ
looks_counted l = l.found + (l.again + (l.marked + (l.lost + (l.held + (l.gone + l.worn)))))

-- the word of a page that may be locked exclusively as far as its version goes
abbrev pub IsBelowLast : ℕ → Type 0
IsBelowLast word = version_of word < MAX_VERSION

-- a look at page p found this word, and the page was not chosen before
pub record LooksAt (chosen : List (ℕ × ℕ)) (p word : ℕ) (steps : List Did) (more : List Did) : Type 0 where
  pub new : has p (candidate_pages chosen) ≡ false
  pub steps_are : steps ≡ did_load (places.State p) word ∷ more

-- what the look at page p comes to: the looks counted after it, and the candidates
pub data Visits (chosen : List (ℕ × ℕ)) (p : ℕ) (steps : List Did) (old : Looks) (new : Looks) (list : List (ℕ × ℕ)) : Type 0 where
  again :
      (word : ℕ) → has p (candidate_pages chosen) ≡ true → steps ≡ did_load (places.State p) word ∷ []
      → new ≡ record old { again = old.again + 1 } → list ≡ chosen → Visits chosen p steps old new list
  gone :
      (word : ℕ) → LooksAt chosen p word steps [] → state_of word ≡ EVICTED → new ≡ record old { gone = old.gone + 1 } → list ≡ chosen
      → Visits chosen p steps old new list
  held :
      (word : ℕ) → LooksAt chosen p word steps [] → IsHeld word → new ≡ record old { held = old.held + 1 } → list ≡ chosen
      → Visits chosen p steps old new list
  worn :
      (word : ℕ) → LooksAt chosen p word steps [] → (state_of word ≡ UNLOCKED) ⊎ (state_of word ≡ MARKED) → version_of word ≡ MAX_VERSION
      → new ≡ record old { worn = old.worn + 1; first_worn = first_or old.first_worn p } → list ≡ chosen
      → Visits chosen p steps old new list
  marked :
      (word : ℕ) → LooksAt chosen p word steps (did_exchange (places.State p) word word (word_of MARKED (version_of word)) ∷ [])
      → state_of word ≡ UNLOCKED → IsBelowLast word → new ≡ record old { marked = old.marked + 1 } → list ≡ chosen
      → Visits chosen p steps old new list
  lost :
      (word other : ℕ) → other ≢ word
      → LooksAt chosen p word steps (did_exchange (places.State p) word other (word_of MARKED (version_of word)) ∷ [])
      → state_of word ≡ UNLOCKED → IsBelowLast word → new ≡ record old { lost = old.lost + 1 } → list ≡ chosen
      → Visits chosen p steps old new list
  found :
      (word : ℕ) → LooksAt chosen p word steps [] → state_of word ≡ MARKED → IsBelowLast word → new ≡ record old { found = old.found + 1 }
      → list ≡ chosen ++ (p, word) ∷ [] → Visits chosen p steps old new list

-- what the visit of frame f comes to: no page stands there, or its owner word names a page of the table, which is looked at
pub data VisitsFrame (pages : ℕ) (chosen : List (ℕ × ℕ)) (f : ℕ) (steps : List Did) (old : Looks) (new : Looks)
    (list : List (ℕ × ℕ)) : Type 0 where
  empty :
      steps ≡ did_load (places.Owner f) 0 ∷ [] → new ≡ record old { gone = old.gone + 1 } → list ≡ chosen
      → VisitsFrame pages chosen f steps old new list
  named :
      (p : ℕ) (more : List Did) → p < pages → steps ≡ did_load (places.Owner f) (p + 1) ∷ more → Visits chosen p more old new list
      → VisitsFrame pages chosen f steps old new list

-- the first `count` looks of a walk from the place drawn: each was made because candidates were still wanted
abbrev pub WalksFrames : ℕ → ℕ → ℕ → ℕ → ℕ → List Did → Looks → List (ℕ × ℕ) → Type 0
WalksFrames want pages frames drawn zero done looks list = (done ≡ []) × (looks ≡ no_looks) × (list ≡ [])
WalksFrames want pages frames drawn (suc k) done looks list =
    (before : List Did) × (steps : List Did) × (old : Looks) × (chosen : List (ℕ × ℕ))
    × (done ≡ before ++ steps) × WalksFrames want pages frames drawn k before old chosen × (length chosen < want)
    × VisitsFrame pages chosen ((drawn + k) % frames) steps old looks list

-- one of the steps found an owner word that names page p
abbrev pub FindsOwner : List Did → ℕ → Type 0
FindsOwner done p = (f : ℕ) × HasGiven done (places.Owner f) (p + 1)

-- the word of a page once the clock has passed it, where nobody else changes it: an unlocked page below the last version is marked
abbrev pub passed_word : ℕ → ℕ
passed_word word = if (state_of word == UNLOCKED) && nat_lt (version_of word) MAX_VERSION then word_of MARKED (version_of word) else word

module _ {X : Type 0} where
  -- the frame at one of the first `count` places of a walk from the place drawn is page p's, as the pass knew
  abbrev pub IsPassed : View X → ℕ → ℕ → ℕ → Type 0
  IsPassed v drawn count p = (k : ℕ) × (k < count) × (known_word_at v (places.Owner ((drawn + k) % v.start.frames)) ≡ p + 1)

  -- the places that a walk writes: the hand, and the state words of the pages that it passed
  abbrev pub IsWalked : View X → ℕ → ℕ → WordPlace → Type 0
  IsWalked v drawn count at = (at ≡ places.Hand) ⊎ ((p : ℕ) × (at ≡ places.State p) × IsPassed v drawn count p)

  -- what a pass that was alone knows after a walk: the hand went on once from the place drawn, the pages passed have
  -- their words (`passed_word`),
  -- and all other words are as before
  pub record KnowsWalked (drawn count : ℕ) (v w : View X) : Type 0 where
    pub drawn_is : drawn ≡ known_word_at v places.Hand
    pub hand : KnowsAt places.Hand (hand_more drawn) w
    pub passed :
        (p : ℕ) → p < v.start.pages → IsPassed v drawn count p
        → KnowsAt (places.State p) (passed_word (known_word_at v (places.State p))) w
    pub others : KnowsElse (IsWalked v drawn count) v w

  -- the walk that chose these candidates, and what it left of the view: no lock, no frame and no entry changed; nor did an open read but of
  -- the pages that the owner words named which it found
  pub record IsChosen (want : ℕ) (looks : Looks) (list : List (ℕ × ℕ)) (v w : View X) : Type 0 where
    pub drawn : ℕ
    pub count : ℕ
    pub steps : List Did
    pub walk : WalksFrames want v.start.pages v.start.frames drawn count steps looks list
    pub most : count ≤ 2 * v.start.frames
    pub ends : (length list ≡ want) ⊎ (count ≡ 2 * v.start.frames)
    pub counted : looks_counted looks ≡ count
    pub aside : IsAsideOf (FindsOwner steps) (did_change places.Hand drawn (hand_more drawn) ∷ steps) v w
    pub keeps : KeepsFrames v w
    -- nothing was released; of a pass that is alone the steps made all that happened to the table's words
    pub alone : RunsAlone (did_change places.Hand drawn (hand_more drawn) ∷ steps) [] v w
    pub table : IsAlone v → KnowsWalked drawn count v w

  -- page p was visited: what the look came to, and what it left of the view
  pub record IsPageVisited (p : ℕ) (old : Looks) (chosen : List (ℕ × ℕ)) (new : Looks) (list : List (ℕ × ℕ)) (v w : View X) : Type 0 where
    pub steps : List Did
    pub visits : Visits chosen p steps old new list
    pub aside : IsAside p steps v w
    pub keeps : KeepsFrames v w
    pub alone : RunsAlone steps [] v w

  -- frame f was visited: what the visit came to, and what it left of the view
  pub record IsFrameVisited (f : ℕ) (old : Looks) (chosen : List (ℕ × ℕ)) (new : Looks) (list : List (ℕ × ℕ)) (v w : View X) : Type 0 where
    pub steps : List Did
    pub visits : VisitsFrame v.start.pages chosen f steps old new list
    pub aside : IsAsideOf (FindsOwner steps) steps v w
    pub keeps : KeepsFrames v w
    pub alone : RunsAlone steps [] v w
