-- What bringing a page into a frame answers. A page that was evicted is released at its next version with the words
-- that it had: resident in
-- the frame, or evicted again where its block could not be read.
use Rattle.std.specs.Prelude.{[], List, None, slice_index, Some, true, ℕ, ◌++◌, ◌+◌, ◌<◌, ◌∷◌, ◌≡◌, ◌≢◌, ◌≤◌, ◌⊎◌}
use Rattle.vm_event.specs.Fn as fns
use Rattle.vm_event.specs.Prelude.{EVICTED, LOCKED, MAX_VERSION, state_of, trans_word, UNLOCKED, version_of, word_of}
use Rattle.vm_supply.specs.from_vm_rule.Prelude.{clean_in, did_exchange, did_store, Each, last_in, last_of, LockTold}
use Rattle.vm_supply.specs.from_vm_rule.Prelude.{LookTold, Start, without}
use Rattle.vm_supply.specs.from_vm_rule.declared_view_WordPlace.{WordPlace}
use Rattle.vm_supply.specs.from_vm_step.{declared_saw_Saw.Saw, Evidence.EvictedExpected}
use Rattle.vm_supply.specs.from_vm_step.Prelude.{Did, GoesOnce, HasGiven, HasWritten, IsAlone, IsAside, IsLost, IsOfPage, IsSaw}
use Rattle.vm_supply.specs.from_vm_step.Prelude.{KeepsFrames, known_word_at, KnowsElse, KnowsSame, LeavesOnly, NoWord, Release}
use Rattle.vm_supply.specs.from_vm_step.Prelude.{RunsAlone, View}
use Rattle.vm_supply.specs.from_vm_step.declared_saw_At.{At}
use Rattle.vm_fault.specs.declared.fault.Fetch.{Fetch}

-- the page was found at the last version, in a state other than evicted: no lock of it may be tried
pub record IsWornIn (done : List Did) (p : ℕ) (saw : Saw) : Type 0 where
  pub given : HasGiven done (WordPlace.State p) saw.seen
  pub foreign : Each (λ d. d.at ≡ WordPlace.State p → d.wrote ≢ Some saw.seen) given.earlier
  pub last : version_of saw.seen ≡ MAX_VERSION
  pub other : state_of saw.seen ≢ EVICTED
  pub first : saw.first ≡ word_of EVICTED MAX_VERSION

-- the exchange that was to lock the page expected it evicted at the version seen, and found another word
pub record IsLostTo (done : List Did) (p : ℕ) (saw : Saw) : Type 0 where
  pub evidence : IsSaw NoWord EvictedExpected done saw
  pub earlier : List Did
  pub step : Did
  pub later : List Did
  pub cut : done ≡ earlier ++ step ∷ later
  pub lost : IsLost step (WordPlace.State p) saw.first saw.seen
  pub first : state_of saw.first ≡ EVICTED

-- the step that locks page p, which is evicted at this version; and the one that releases it from there with this state
abbrev pub locks_out : ℕ → ℕ → Did
locks_out p version = did_exchange (WordPlace.State p) (word_of EVICTED version) (word_of EVICTED version) (word_of LOCKED version)

abbrev pub releases_as : ℕ → ℕ → ℕ → Did
releases_as state p version = did_store (WordPlace.State p) (word_of state (version + 1))

-- a place of page p, or one of frame f, which has so many words: its owner word, or one of its words
abbrev pub IsOfBoth : ℕ → ℕ → ℕ → WordPlace → Type 0
IsOfBoth size p f at = IsOfPage p at ⊎ ((at ≡ WordPlace.Owner f) ⊎ ((i : ℕ) × (i < size) × (at ≡ WordPlace.Content f i)))

-- the block of page p went out once and came home once, with no step between: so its device was called once at most
abbrev pub ReadsOnce : ℕ → List Did → Type 0
ReadsOnce p done = (once : GoesOnce p done) × (once.between ≡ [])

module _ {X : Type 0} where
  -- what a pass that was alone knows then: the page was evicted at this version, its word is this one at the next,
  -- and all words but those at
  -- the places touched are as before
  pub record KnowsReleased (touched : WordPlace → Type 0) (state p version : ℕ) (v w : View X) : Type 0 where
    pub before : known_word_at v (WordPlace.State p) ≡ word_of EVICTED version
    pub now : known_word_at w (WordPlace.State p) ≡ word_of state (version + 1)
    pub others : KnowsElse touched v w

  -- a look at page p led on from v, and then the lock of the page, which was evicted at this version, to w
  pub record IsFoundEvicted (tied : Start → ℕ → List ℕ → ℕ → List ℕ → Type 0) (p version : ℕ) (v w : View X) : Type 0 where
    pub between : View X
    pub word : ℕ
    pub look : LookTold tied p None word v between
    pub lock : LockTold tied p (word_of EVICTED version) (word_of EVICTED version) between w

  -- the pass knows that page p is evicted below the last version
  abbrev pub IsKnownOut : ℕ → View X → Type 0
  IsKnownOut p v = (state_of (known_word_at v (WordPlace.State p)) ≡ EVICTED)
      × (version_of (known_word_at v (WordPlace.State p)) < MAX_VERSION)

  -- page p was found evicted at this version, below the last, and was released with this word at the next one; its
  -- words are those that it had
  pub record IsReleasedAs (state p version : ℕ) (words : List ℕ) (done : List Did) (v w : View X) : Type 0 where
    pub below : version < MAX_VERSION
    pub found : HasGiven done (WordPlace.State p) (word_of EVICTED version)
    pub left : HasWritten done (WordPlace.State p) (word_of state (version + 1))
    -- whoever else was there, it was locked once and released once, and no other step left a word in its state word:
    -- so it costs one version
    pub once : LeavesOnly (WordPlace.State p) (locks_out p version ∷ releases_as state p version ∷ []) done
    pub between : List Release
    pub releases : w.releases ≡ (v.releases ++ between) ++ record { page = p; version = version + 1; words = words } ∷ []
    pub same : last_in v.start (v.releases ++ between) p ≡ record { version = version; words = words }
    pub last : last_of w p ≡ record { version = version + 1; words = words }

  -- page p is resident in frame f, which is the pass's no more, and whose owner word names the page; where blocks
  -- tell, all words of the frame were
  -- stored, the page's last ones
  pub record IsBrought (p f : ℕ) (v w : View X) : Type 0 where
    pub done : List Did
    pub aside : IsAside p done v w
    pub version : ℕ
    pub words : List ℕ
    pub released : IsReleasedAs UNLOCKED p version words done v w
    -- no step is elsewhere; the page is released once, and of a pass that is alone nothing else happened to the table's words
    pub steps : Each (λ d. IsOfBoth v.start.size p f d.at) done
    pub block : ReadsOnce p done
    pub alone : RunsAlone done (record { page = p; version = version + 1; words = words } ∷ []) v w
    pub table : IsAlone v → KnowsReleased (IsOfBoth v.start.size p f) UNLOCKED p version v w
    pub mapped : HasWritten done (WordPlace.Translation p) (trans_word (Some (clean_in f)))
    pub owned : HasWritten done (WordPlace.Owner f) (p + 1)
    pub stored : v.start.tells ≡ true → (i : ℕ) → i < v.start.size → HasWritten done (WordPlace.Content f i) (slice_index words i)
    pub frames : w.frames ≡ without f v.frames
    pub notes : w.notes ≡ v.notes

  -- its block could not be read: the fault was noted, with the count that the fault word was raised to, which the block's bound allows, and
  -- the page is evicted again
  pub record IsFailed (p count : ℕ) (v w : View X) : Type 0 where
    pub done : List Did
    pub aside : IsAside p done v w
    pub version : ℕ
    pub words : List ℕ
    pub released : IsReleasedAs EVICTED p version words done v w
    pub steps : Each (λ d. IsOfPage p d.at) done
    pub block : ReadsOnce p done
    pub alone : RunsAlone done (record { page = p; version = version + 1; words = words } ∷ []) v w
    pub table : IsAlone v → KnowsReleased (IsOfPage p) EVICTED p version v w
    pub raised : HasWritten done (WordPlace.Fault p) count
    pub noted : w.notes ≡ v.notes ++ record { page = p; count = count } ∷ []
    pub within : (1 ≤ count) × (count ≤ fns.at 0 v.start.bounds p)
    pub frames : (w.frames ≡ v.frames) × (w.contents ≡ v.contents)

  -- it may be tried again
  pub record IsFetchToTry (p : ℕ) (saw : Saw) (v w : View X) : Type 0 where
    pub done : List Did
    pub aside : IsAside p done v w
    pub keeps : KeepsFrames v w
    -- its steps are on the page's state word, and leave none there: nothing is done to a page that another has by then
    pub steps : Each (λ d. (d.at ≡ WordPlace.State p) × (d.wrote ≡ None)) done
    pub alone : RunsAlone done [] v w
    pub table : KnowsSame v w
    pub at : saw.at ≡ At.Page p
    pub why : IsLostTo done p saw ⊎ IsWornIn done p saw
    -- a pass that is alone finds the word that it knew, which is not an evicted page's
    pub known : IsAlone v → (saw.seen ≡ known_word_at v (WordPlace.State p)) × (state_of saw.seen ≢ EVICTED)

  -- it is evicted at the last version
  pub record IsFetchWorn (p : ℕ) (v w : View X) : Type 0 where
    pub done : List Did
    pub aside : IsAside p done v w
    pub keeps : KeepsFrames v w
    pub steps : Each (λ d. (d.at ≡ WordPlace.State p) × (d.wrote ≡ None)) done
    pub alone : RunsAlone done [] v w
    pub table : KnowsSame v w
    pub found : HasGiven done (WordPlace.State p) (word_of EVICTED MAX_VERSION)
    pub foreign : Each (λ d. d.at ≡ WordPlace.State p → d.wrote ≢ Some (word_of EVICTED MAX_VERSION)) found.earlier
    -- so a pass that is alone knew
    pub known : IsAlone v → known_word_at v (WordPlace.State p) ≡ word_of EVICTED MAX_VERSION

  -- what `fault_in` of page p into frame f answers: on every answer but Brought the frame comes back
  abbrev pub IsFetched : ℕ → ℕ → View X → View X → Fetch → Type 0
  IsFetched p f v w Fetch.Brought = IsBrought p f v w
  IsFetched p f v w (Fetch.Again frame saw) = (frame ≡ f) × IsFetchToTry p saw v w
  IsFetched p f v w (Fetch.Worn frame pid) = (frame ≡ f) × (pid ≡ p) × IsFetchWorn p v w
  IsFetched p f v w (Fetch.Device frame pid count) = (frame ≡ f) × (pid ≡ p) × IsFailed p count v w
