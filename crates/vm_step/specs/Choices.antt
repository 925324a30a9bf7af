-- Pages that are chosen for eviction, each with the word at which it was marked.
use Rattle.std.specs.Prelude.{[], ◌<◌, ◌∷◌, ◌≡◌, ◌≤◌, List, None, Option, Some, ℕ}
use Rattle.vm_event.specs.Prelude.{LOCKED, MARKED, MAX_VERSION, state_of, version_of}
use Rattle.vm_rule.specs.Prelude.{AreApart, Each}

-- the pages of the candidates
abbrev pub candidate_pages : List (ℕ × ℕ) → List ℕ
candidate_pages [] = []
candidate_pages (c ∷ cs) = c.0 ∷ candidate_pages cs

-- the first of them, or this page
abbrev pub first_or : Option ℕ → ℕ → Option ℕ
first_or None p = Some p
first_or (Some q) p = Some q

-- somebody has the page locked: exclusively, or by shares
abbrev pub IsHeld : ℕ → Type 0
IsHeld word = ((1 ≤ state_of word) × (state_of word ≤ LOCKED))

-- a candidate: a page of the table, with its word, which was marked below the last version
pub record IsCandidate (pages : ℕ) (c : ℕ × ℕ) : Type 0 where
  pub page : c.0 < pages
  pub marked : state_of c.1 ≡ MARKED
  pub below : version_of c.1 < MAX_VERSION

-- candidates for eviction: each another page
pub record AreCandidates (pages : ℕ) (list : List (ℕ × ℕ)) : Type 0 where
  pub apart : AreApart (candidate_pages list)
  pub each : Each (IsCandidate pages) list
