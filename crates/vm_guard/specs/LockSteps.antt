-- The steps that take a lock of a page: looks at its word, one exchange, and a load of its translation word. So a
-- lock that was tried more than once
-- leaves no word but the one that took it, whoever else is there.
use Rattle.std.specs.Prelude.{[], ◌++◌, ◌∷◌, ◌≡◌, List, None, Option, Some, ℕ}
use Rattle.vm_event.specs.Prelude.{frame_of, LOCKED, mapping_of, one_share_more, state_of, version_of, word_of}
use Rattle.vm_rule.specs.Prelude.{did_exchange, did_load, Each, Mapping}
use Rattle.vm_rule.specs.declared.view.WordPlace.{WordPlace}
use Rattle.vm_step.specs.Prelude.{Did}

-- the exchange that locked page p, which expected this word
abbrev pub lock_did : ℕ → ℕ → Did
lock_did p expects = did_exchange (WordPlace.State p) expects expects (word_of LOCKED (version_of expects))

-- the exchange that took a share of page p, which expected this word
abbrev pub share_did : ℕ → ℕ → Did
share_did p expects = did_exchange (WordPlace.State p) expects expects (word_of (one_share_more (state_of expects)) (version_of expects))

-- the lock was taken by this exchange, and then this translation word was loaded; all steps before were at the page's
-- state word, and left none there
pub record TakesBy (p : ℕ) (taken : Did) (translation : ℕ) (done : List Did) : Type 0 where
  pub before : List Did
  pub cut : done ≡ before ++ taken ∷ did_load (WordPlace.Translation p) translation ∷ []
  pub looks : Each (λ d. (d.at ≡ WordPlace.State p) × (d.wrote ≡ None)) before

-- page p was locked, by an exchange that expected a word of this version, and stands so, or is not resident
pub record LocksBy (p version : ℕ) (stands : Option Mapping) (done : List Did) : Type 0 where
  pub expects : ℕ
  pub at : version_of expects ≡ version
  pub translation : ℕ
  pub names : mapping_of translation ≡ stands
  pub steps : TakesBy p (lock_did p expects) translation done

-- a share of page p was taken, and the page stands in this frame
pub record SharesBy (p frame : ℕ) (done : List Did) : Type 0 where
  pub expects : ℕ
  pub translation : ℕ
  pub names : frame_of (mapping_of translation) ≡ Some frame
  pub steps : TakesBy p (share_did p expects) translation done

-- a share of page p was taken at last, by an exchange that expected a word of this version; all steps before were at
-- the page's state word, and left
-- none there
pub record SharesAt (p version : ℕ) (done : List Did) : Type 0 where
  pub expects : ℕ
  pub at : version_of expects ≡ version
  pub before : List Did
  pub cut : done ≡ before ++ share_did p expects ∷ []
  pub looks : Each (λ d. (d.at ≡ WordPlace.State p) × (d.wrote ≡ None)) before
