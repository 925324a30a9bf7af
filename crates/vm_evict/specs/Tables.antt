-- What a pass that is alone knows of the words of one candidate for eviction, by how far the eviction is with it.
-- Such a pass loses a candidate only
-- where it knew another word of the page than the one at which the page was marked; and it has written none of those that it lost.
use Rattle.std.specs.Prelude.{false, List, None, true, ℕ, ◌+◌, ◌≡◌, ◌≢◌}
use Rattle.vm_event.specs.Prelude.{EVICTED, LOCKED, trans_word, UNLOCKED, version_of, word_of}
use Rattle.vm_rule.specs.{declared.view.WordPlace.WordPlace, Prelude.has}
use Rattle.vm_rule.specs.declared.view.WordPlace.TheVariants as places
use Rattle.vm_supply.specs.from_vm_step.Prelude.{known_word_at, View}
use Rattle.vm_evict.specs.declared.candidate.Stage.{Stage}
use Rattle.vm_evict.specs.declared.candidate.Stage.TheVariants as stages

-- the place is the state word, the translation word or the fault word of one of these pages, or the owner word of a frame
abbrev pub IsOfAny : List ℕ → WordPlace → Type 0
IsOfAny pages (places.State p) = has p pages ≡ true
IsOfAny pages (places.Translation p) = has p pages ≡ true
IsOfAny pages (places.Fault p) = has p pages ≡ true
IsOfAny pages (places.Owner f) = Unit {0}
IsOfAny pages at = ⊥

module _ {X : Type 0} where
  -- the word at this place is as it was
  abbrev pub KnowsOn : WordPlace → View X → View X → Type 0
  KnowsOn at v w = known_word_at w at ≡ known_word_at v at

  -- all words of page p are as they were
  pub record KnowsKept (p : ℕ) (v w : View X) : Type 0 where
    pub state : KnowsOn (places.State p) v w
    pub translation : KnowsOn (places.Translation p) v w
    pub fault : KnowsOn (places.Fault p) v w

  -- the candidate had the word at which it was marked, and has this state at this version
  pub record KnowsLocked (c : ℕ × ℕ) (state version : ℕ) (v w : View X) : Type 0 where
    pub before : known_word_at v (places.State c.0) ≡ c.1
    pub now : known_word_at w (places.State c.0) ≡ word_of state version

  -- the candidate's words at its stage; where it was taken out of its frame its translation word names none, and
  -- where its write failed its fault
  -- word is the fault's count
  abbrev pub KnowsStage : ℕ × ℕ → Stage → View X → View X → Type 0
  KnowsStage c stages.Waiting v w = KnowsKept c.0 v w
  KnowsStage c stages.Clean v w = KnowsKept c.0 v w
  KnowsStage c (stages.Shared written) v w =
      KnowsLocked c 1 (version_of c.1) v w × KnowsOn (places.Fault c.0) v w × (written ≡ false → KnowsOn (places.Translation c.0) v w)
  KnowsStage c (stages.Owned written) v w = KnowsLocked c LOCKED (version_of c.1) v w × KnowsOn (places.Fault c.0) v w
  KnowsStage c (stages.Emptied frame written) v w =
      KnowsLocked c LOCKED (version_of c.1) v w × KnowsOn (places.Fault c.0) v w
      × (known_word_at w (places.Translation c.0) ≡ trans_word None)
  KnowsStage c (stages.Freed frame written) v w =
      KnowsLocked c EVICTED (version_of c.1 + 1) v w × KnowsOn (places.Fault c.0) v w
      × (known_word_at w (places.Translation c.0) ≡ trans_word None)
  KnowsStage c (stages.Failed count) v w =
      KnowsLocked c UNLOCKED (version_of c.1) v w × KnowsOn (places.Translation c.0) v w × (known_word_at w (places.Fault c.0) ≡ count)
  KnowsStage c (stages.Lost written) v w = (written ≡ false) × (known_word_at v (places.State c.0) ≢ c.1) × KnowsKept c.0 v w
