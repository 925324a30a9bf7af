-- Pages that are locked one after the other, and numbers of pages that are given then.
use Rattle.std.specs.Prelude.{[], ◌∷◌, ◌≡◌, ◌⊎◌, List, true, ℕ}
use Rattle.vm_tree_model.specs.{Layout.Layout, Page.IsInner, Page.IsLeaf, Page.node_of}
use Rattle.vm_event.specs.Prelude.{in_mask, version_of}
use Rattle.vm_rule.specs.FreeNumbers.{GiveNumbersTold}
use Rattle.vm_rule.specs.Prelude.{Each}
use Rattle.vm_tree_split.specs.from_vm_step.Prelude.{IsAlone, View}
use Rattle.vm_tree_split.specs.from_vm_guard.{declared_exclusive_ExclusiveGuard.ExclusiveGuard, declared_opt_OptGuard.OptGuard}
use Rattle.vm_tree_split.specs.from_vm_guard.{Guards.IsLocked, Guards.IsReading, Sure.IsUnlockedWord, Sure.known_word}
use Rattle.vm_tree_laws.specs.Tied.{Tied}
use Rattle.vm_tree_split.specs.from_vm_tree_rule.{Seeks.HasRead, Standing.MeetsTies}

-- a node's words, with this tag: 2 of a leaf, 3 of an inner node
abbrev pub IsKindOf : Layout → ℕ → List ℕ → Type 0
IsKindOf L tag words = ((node_of L words).tag ≡ tag) × (IsLeaf L words ⊎ IsInner L words)

module _ {X : Type 0} (L : Layout) where
  -- the page of this guard was locked at the guard's version
  pub record IsLockedAt (g : OptGuard) (held : ExclusiveGuard) (v w : View X) : Type 0 where
    pub page : held.pid ≡ g.pid
    pub version : held.version ≡ version_of g.word
    pub locked : IsLocked (Tied L) g.pid held.frame held.version held.dirty v w

  -- so were the pages of these guards, one after the other
  abbrev pub AreAllLocked : List OptGuard → List ExclusiveGuard → View X → View X → Type 0
  AreAllLocked [] [] v w = w ≡ v
  AreAllLocked [] (l ∷ ls) v w = ⊥
  AreAllLocked (g ∷ gs) [] v w = ⊥
  AreAllLocked (g ∷ gs) (l ∷ ls) v w = (x : View X) × IsLockedAt g l v x × AreAllLocked gs ls x w

  -- A page is read through this guard, whole and last, with these words; and where blocks tell their words, what its
  -- ties ask for is a node with this tag
  pub record IsReadAs (g : OptGuard) (page : List ℕ) (tag : ℕ) (v : View X) : Type 0 where
    pub reading : IsReading g.pid g.word g.frame v
    pub read : HasRead v g.pid page
    pub kind : v.start.tells ≡ true → (words : List ℕ) → MeetsTies L v g.pid g.word words → IsKindOf L tag words

module _ {X : Type 0} where
  -- a pass that is alone knows that these pages are free, at the words of their guards
  pub record KnowsFree (gs : List OptGuard) (v : View X) : Type 0 where
    pub alone : IsAlone v
    pub each : Each (λ g. IsUnlockedWord g.word × (known_word g.pid v ≡ g.word)) gs

  -- the number of page p was given, and no other one
  abbrev pub GivesNumber : ℕ → View X → View X → Type 0
  GivesNumber p v w = (g mask found : ℕ) × (in_mask g mask p ≡ true) × ((q : ℕ) → in_mask g mask q ≡ true → q ≡ p)
      × GiveNumbersTold g mask found v w

  -- so were the numbers of these pages
  abbrev pub AreNumbersGiven : List ℕ → View X → View X → Type 0
  AreNumbersGiven [] v w = w ≡ v
  AreNumbersGiven (p ∷ ps) v w = (x : View X) × GivesNumber p v x × AreNumbersGiven ps x w
