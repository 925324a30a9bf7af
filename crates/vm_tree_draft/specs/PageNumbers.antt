-- What a call on the tree leaves of the page numbers of its pass: those that it holds, and those of freed pages that it has still to give.
use Rattle.std.specs.Prelude.{◌++◌, ◌≡◌, ◌⊎◌, List, true, ℕ}
use Rattle.vm_event.specs.Prelude.{MAX_VERSION, version_of}
use Rattle.vm_rule.specs.Prelude.{has}
use Rattle.vm_rule.specs.declared.view.WordPlace.{WordPlace}
use Rattle.vm_step.specs.Prelude.{Did, HasGiven, View}

module _ {X : Type 0} where
  -- The pass holds no number that it did not hold, and has just those still to give that it had. A page that is
  -- written or split is in use, so its number is in no
  -- hand; it is said where the blocks tell their words: else a page that is given up takes its number along.
  abbrev pub GainsNone : View X → View X → Type 0
  GainsNone v w = v.start.tells ≡ true → ((q : ℕ) → has q w.numbers ≡ true → has q v.numbers ≡ true) × (w.freed ≡ v.freed)

  -- a step since then found page p at the last version
  pub record HasFoundLast (p : ℕ) (v w : View X) : Type 0 where
    pub done : List Did
    pub log : w.log ≡ v.log ++ done
    pub word : ℕ
    pub given : HasGiven done (WordPlace.State p) word
    pub last : version_of word ≡ MAX_VERSION

  -- the same, but for numbers of pages that were found at the last version since then: they are given to nobody
  abbrev pub GainsWorn : View X → View X → Type 0
  GainsWorn v w = v.start.tells ≡ true
      → ((q : ℕ) → has q w.numbers ≡ true → (has q v.numbers ≡ true) ⊎ HasFoundLast q v w) × (w.freed ≡ v.freed)
