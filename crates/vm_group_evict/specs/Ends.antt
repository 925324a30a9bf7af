-- What becomes of a group that is to be evicted: it is evicted, or the write of one of its pages fails, or it changed
-- before it could be locked.
use Rattle.std.specs.Prelude.{[], ◌++◌, ◌∷◌, ◌≡◌, ◌≢◌, ◌⊎◌, List, ℕ}
use Rattle.vm_event.specs.Prelude.{LOCKED, version_of, word_of}
use Rattle.vm_rule.specs.Prelude.{numbers}
use Rattle.vm_step.specs.Prelude.{Did, IsAsideOf, KeepsFrames, View}
use Rattle.vm_evict.specs.Evictions.{FramesCome, HasReleased}
use Rattle.vm_group_guard.specs.{Group.IsUnder, Reading.IsGroupQuiet, Steps.exchanges}
use Rattle.vm_group_evict.specs.{declared.evict.GroupEnd.GroupEnd, declared.save.Failure.Failure, Emptying.AreEmptied}
use Rattle.vm_group_evict.specs.Locks.{IsGivenBack, IsLeftEvicted, IsRaised, IsTakenToWrite}
use Rattle.vm_group_evict.specs.Saving.{IsGroupSaved, IsGroupUnsaved}

module _ {X : Type 0} where
  -- the exchange that was to lock the group found another word than it expected, and left it
  abbrev pub IsLostExchange : ℕ → ℕ → ℕ → ℕ → View X → View X → Type 0
  IsLostExchange h size expects new v w =
      (found : ℕ) × (found ≢ expects) × IsGroupQuiet h size (exchanges expects found new (numbers h size)) v w

  -- what a call leaves that gave up all it took: no lock and no word of the layer above is another
  abbrev pub IsAsideOfGroup : ℕ → ℕ → View X → View X → Type 0
  IsAsideOfGroup h size v w = (done : List Did) × IsAsideOf (IsUnder h size) done v w

  -- It was locked from this word, each page written where it was dirty, locked exclusively, taken out of its frames, which
  -- came to the pass, and released as evicted with the words that it had.
  pub record IsGroupFreed (h size word : ℕ) (frames : List ℕ) (written : ℕ) (v w : View X) : Type 0 where
    pub taken : View X
    pub saved : View X
    pub raised : View X
    pub emptied : View X
    pub takes : IsTakenToWrite h size word v taken
    pub saves : IsGroupSaved h size written taken saved
    pub raises : IsRaised h size word saved raised
    pub empties : AreEmptied h size frames raised emptied
    pub leaves : IsLeftEvicted h size word emptied w
    pub aside : IsAsideOfGroup h size v w
    pub come : FramesCome frames v w
    pub notes : w.notes ≡ v.notes
    pub released : (q : ℕ) → IsUnder h size q → HasReleased q word v w

  -- The write of a page failed: the group stays resident, where it was, that page dirty; its fault is noted.
  pub record IsGroupFailed (h size word : ℕ) (failure : Failure) (v w : View X) : Type 0 where
    pub taken : View X
    pub unsaved : View X
    pub takes : IsTakenToWrite h size word v taken
    pub fails : IsGroupUnsaved h size failure taken unsaved
    pub gives : IsGivenBack h size unsaved w
    pub aside : IsAsideOfGroup h size v w
    pub frames : (w.frames ≡ v.frames) × (w.contents ≡ v.contents)
    pub notes : w.notes ≡ v.notes ++ record { page = failure.page; count = failure.count } ∷ []

  -- it was locked and written, but had another share when the lock was to become exclusive
  pub record IsGroupShared (h size word written : ℕ) (v w : View X) : Type 0 where
    pub taken : View X
    pub saved : View X
    pub lost : View X
    pub takes : IsTakenToWrite h size word v taken
    pub saves : IsGroupSaved h size written taken saved
    pub loses : IsLostExchange h size (word_of 1 (version_of word)) (word_of LOCKED (version_of word)) saved lost
    pub gives : IsGivenBack h size lost w

  -- the group stays resident, where it was
  pub record IsGroupLost (h size word written : ℕ) (v w : View X) : Type 0 where
    pub why : ((written ≡ 0) × IsLostExchange h size word (word_of 1 (version_of word)) v w)
        ⊎ IsGroupShared h size word written v w
    pub aside : IsAsideOfGroup h size v w
    pub frames : KeepsFrames v w

  abbrev pub EndsGroup : ℕ → ℕ → ℕ → View X → View X → GroupEnd → Type 0
  EndsGroup h size word v w (GroupEnd.Freed frames written) = IsGroupFreed h size word frames.items written v w
  EndsGroup h size word v w (GroupEnd.Failed failure) = IsGroupFailed h size word failure v w
  EndsGroup h size word v w (GroupEnd.Lost written) = IsGroupLost h size word written v w
