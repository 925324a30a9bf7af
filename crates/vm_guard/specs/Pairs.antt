-- What a caller of fresh pages has written, and what one says that two pages prove together.
use Rattle.std.specs.Prelude.{[], ◌∷◌, ◌≡◌, length, List, replicate, slice_set, Some, true, ℕ}
use Rattle.vm_rule.specs.Prelude.{began_of, entries_of, Entry, last_of, LockValidates, Start}
use Rattle.vm_step.specs.Prelude.{View}

module _ {X : Type 0} where
  -- the last words of page p are zeros but for the first one
  abbrev pub HasFirst : ℕ → ℕ → View X → Type 0
  HasFirst p x v = (last_of v p).words ≡ slice_set (replicate v.start.size 0) 0 x

  -- page q with its last words, and page p with any words that a lock validates at this version, prove what is said
  abbrev pub SaysOfTwo : (Start → ℕ → List ℕ → ℕ → List ℕ → Type 0)
      → (Start → List (ℕ × List ℕ) → List (Entry X) → Type 0) → ℕ → ℕ → ℕ → X → View X → Type 0
  SaysOfTwo tied may_hold q p version said v =
      v.start.tells ≡ true → (words : List ℕ) → length words ≡ v.start.size → LockValidates tied p version words v
      → may_hold (began_of v.start) ((q, (last_of v q).words) ∷ (p, words) ∷ []) (entries_of v (Some said))
