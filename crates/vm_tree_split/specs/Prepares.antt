-- What a split has taken before it writes: frames, two pages that are locked at the versions read, and fresh pages,
-- for which a free-number word or the next word
-- left room; and what is left where one of these is refused.
use Rattle.std.specs.Prelude.{[], ◌<◌, ◌∷◌, ◌≡◌, ◌⊎◌, Bool, false, length, List, None, true, ℕ}
use Rattle.vm_tree_model.specs.Layout.{Layout}
use Rattle.vm_event.specs.Prelude.{MAX_VERSION, version_of}
use Rattle.vm_page.specs.Pages.{all_zero}
use Rattle.vm_rule.specs.Prelude.{began_of, HoldsNoPage}
use Rattle.vm_step.specs.Prelude.{Did, IsAlone, KnowsUnheld, UnlockedExpected, View}
use Rattle.vm_tree_read.specs.from_vm_exmap.{declared_interface_Alloc.Alloc, Frames.MovesFrames, Returns.IsFreed, Walks.IsAlloc}
use Rattle.vm_tree_read.specs.from_vm_exmap.declared_interface_Alloc_TheVariants as allocs
use Rattle.vm_tree_read.specs.from_vm_guard.{declared_deny_Deny.Deny, declared_exclusive_ExclusiveGuard.ExclusiveGuard}
use Rattle.vm_tree_read.specs.from_vm_guard.{declared_given_Fresh.Fresh, declared_group_Group.Group, declared_opt_OptGuard.OptGuard}
use Rattle.vm_tree_read.specs.from_vm_guard.{Given.AreFreshPages, Groups.guards_of, Guards.IsLocked, Guards.IsReleased}
use Rattle.vm_tree_read.specs.from_vm_guard.{Reused.HasFreshRoom, Reused.IsFreshAnswer}
use Rattle.vm_tree_read.specs.from_vm_guard.declared_deny_Deny_TheVariants as denies
use Rattle.vm_tree_read.specs.from_vm_guard.declared_given_Fresh_TheVariants as freshes
use Rattle.vm_tree_read.specs.from_vm_guard.Denied.{AgainOrWorn, IsDenied, KeptWord}
use Rattle.vm_tree_read.specs.from_vm_guard.Sure.{IsUnlockedWord, known_next, known_word}
use Rattle.vm_tree_laws.specs.Tied.{Tied}
use Rattle.vm_tree_read.specs.from_vm_tree_rule.Standing.{MeetsTies}
use Rattle.vm_tree_split.specs.declared.tries.TrySplit.{TrySplit}
use Rattle.vm_tree_split.specs.declared.tries.TrySplit.TheVariants as tries

module _ {X : Type 0} (L : Layout) where
  -- the first page was locked at its guard's version, and then the second
  pub record AreLocked (first second : OptGuard) (up low : ExclusiveGuard) (v w : View X) : Type 0 where
    pub between : View X
    pub up_page : up.pid ≡ first.pid
    pub up_version : up.version ≡ version_of first.word
    pub up_locked : IsLocked (Tied L) first.pid up.frame up.version up.dirty v between
    pub low_page : low.pid ≡ second.pid
    pub low_version : low.version ≡ version_of second.word
    pub low_locked : IsLocked (Tied L) second.pid low.frame low.version low.dirty between w

  -- frames were taken, both pages were locked, and n fresh pages were given, by a call for them that answered this group
  pub record AreTaken (n : ℕ) (first second : OptGuard) (up low : ExclusiveGuard) (pages : List ExclusiveGuard)
      (v w : View X) : Type 0 where
    pub asked : View X
    pub done : List Did
    pub moves : MovesFrames done v asked
    pub locked : View X
    pub locks : AreLocked first second up low asked locked
    pub before : List ℕ
    pub after : List ℕ
    pub group : Group
    pub guards : guards_of group ≡ pages
    pub answer : IsFreshAnswer n before after locked w (freshes.Pages group)
    pub pids : List ℕ
    pub fresh : AreFreshPages n pids pages before after locked w

  -- there was room for n pages, as loads of the free-number words, and of the next word, showed, and then all was taken
  pub record IsPrepared (n : ℕ) (first second : OptGuard) (up low : ExclusiveGuard) (pages : List ExclusiveGuard)
      (v w : View X) : Type 0 where
    pub roomy : View X
    pub room : HasFreshRoom n v roomy
    pub taken : AreTaken n first second up low pages roomy w

module _ {X : Type 0} where
  -- a pass that is alone knows that both pages are free, at the words of their guards
  pub record KnowsBoth (first second : OptGuard) (v : View X) : Type 0 where
    pub alone : IsAlone v
    pub free : IsUnlockedWord first.word × IsUnlockedWord second.word
    pub words : (known_word first.pid v ≡ first.word) × (known_word second.pid v ≡ second.word)

  -- two pages that the pass held were released, the second one first, and then frames were moved
  pub record GivesUpBoth (up low : ExclusiveGuard) (v w : View X) : Type 0 where
    pub between : View X
    pub released : View X
    pub low_back : IsReleased low.pid low.version None v between
    pub up_back : IsReleased up.pid up.version None between released
    pub done : List Did
    pub moves : MovesFrames done released w

module _ {X : Type 0} (L : Layout) where
  -- words that page p may have at this word, by itself and by its ties, are not all 0
  abbrev pub IsInUseAt : ℕ → ℕ → View X → Type 0
  IsInUseAt p word v = (words : List ℕ) → MeetsTies L v p word words → Tied L (began_of v.start) p words p words → all_zero words ≡ false

  -- A pass that is alone knows that both pages are free, at the words of their guards, and below the next page;
  -- blocks tell their words, and both pages are in
  -- use. It holds nothing, and knows that nobody else does
  pub record KnowsToSplit (first second : OptGuard) (v : View X) : Type 0 where
    pub both : KnowsBoth first second v
    pub below : (first.pid < known_next v) × (second.pid < known_next v)
    pub tells : v.start.tells ≡ true
    pub used : IsInUseAt first.pid first.word v × IsInUseAt second.pid second.word v
    pub holds : HoldsNoPage v
    pub unheld : KnowsUnheld v

-- ---- what was refused

module _ {X : Type 0} where
  -- one frame more was asked for beside these, and the answer was this one; then these went back
  pub record IsSecondRefused (frames : List ℕ) (answer : Alloc) (v w : View X) : Type 0 where
    pub home : ℕ
    pub cap : ℕ
    pub old : List ℕ
    pub empty : List ℕ
    pub new : List ℕ
    pub between : View X
    pub alloc : IsAlloc home cap 1 old empty v between answer
    pub freed : IsFreed cap empty frames new between w

  -- n frames were asked for, and this was the answer; or two were, one was given, and this was the answer when one more was asked for
  pub data IsShort (n : ℕ) (answer : Alloc) (v w : View X) : Type 0 where
    at_once : (home cap : ℕ) (old new : List ℕ) → IsAlloc home cap n old new v w answer → IsShort n answer v w
    after_one : (home cap : ℕ) (old new frames : List ℕ) (x : View X) → n ≡ 2 → length frames ≡ 1
        → IsAlloc home cap 2 old new v x (allocs.Batch frames) → IsSecondRefused frames answer x w
        → IsShort n answer v w

module _ {X : Type 0} (L : Layout) where
  -- a page could not be locked at its guard's version: this was answered, Worn only where that is the last one
  pub record IsDeniedAt (g : OptGuard) (deny : Deny) (v w : View X) : Type 0 where
    pub denied : IsDenied AgainOrWorn (KeptWord g.word) UnlockedExpected g.pid deny v w
    pub last : (q : ℕ) → deny ≡ denies.Worn q → version_of g.word ≡ MAX_VERSION

  -- a page was locked at its guard's version, then this was done, and then the page was released again with the words that it had
  pub record IsLockedMeanwhile (g : OptGuard) (meanwhile : View X → View X → Type 0) (v w : View X) : Type 0 where
    pub frame : ℕ
    pub version : ℕ
    pub dirty : Bool
    pub locked : View X
    pub done : View X
    pub version_is : version ≡ version_of g.word
    pub taken : IsLocked (Tied L) g.pid frame version dirty v locked
    pub inner : meanwhile locked done
    pub back : IsReleased g.pid version None done w

  -- these pages were to be locked, one after the other: one of them could not be, and those before it were released
  -- again, the last one first
  abbrev pub IsLockDenied : List OptGuard → Deny → View X → View X → Type 0
  IsLockDenied [] deny v w = ⊥
  IsLockDenied (g ∷ gs) deny v w = IsDeniedAt g deny v w ⊎ IsLockedMeanwhile g (IsLockDenied gs deny) v w

  -- frames were taken, one of the two pages could not be locked, and frames went back
  pub record IsNotLocked (first second : OptGuard) (deny : Deny) (v w : View X) : Type 0 where
    pub asked : View X
    pub done : List Did
    pub moves : MovesFrames done v asked
    pub back : View X
    pub denied : IsLockDenied (first ∷ second ∷ []) deny asked back
    pub freed : List Did
    pub frees : MovesFrames freed back w

  -- frames were taken, both pages were locked, n fresh pages were asked for, and the answer was this one; then all was given up
  pub record IsRefusedPages (n : ℕ) (first second : OptGuard) (answer : Fresh) (v w : View X) : Type 0 where
    pub asked : View X
    pub done : List Did
    pub moves : MovesFrames done v asked
    pub up : ExclusiveGuard
    pub low : ExclusiveGuard
    pub locked : View X
    pub locks : AreLocked L first second up low asked locked
    pub before : List ℕ
    pub after : List ℕ
    pub refused : View X
    pub fresh : IsFreshAnswer n before after locked refused answer
    pub back : GivesUpBoth up low refused w

-- a lock was denied since the page is at the last version
abbrev pub SaysWorn : Deny → Type 0
SaysWorn (denies.Again saw) = ⊥
SaysWorn (denies.Need p) = ⊥
SaysWorn (denies.Crowded p) = ⊥
SaysWorn (denies.Worn p) = Unit {0}

-- the pages of guards
abbrev pub guard_pages : List OptGuard → List ℕ
guard_pages [] = []
guard_pages (g ∷ gs) = g.pid ∷ guard_pages gs

-- what a try of a split answers where frames were refused so
abbrev pub SaysShort : Alloc → TrySplit → Type 0
SaysShort (allocs.Batch batch) answer = ⊥
SaysShort allocs.Dry answer = answer ≡ tries.Dry
SaysShort (allocs.Again saw) answer = answer ≡ tries.Again saw

-- where a lock was denied so
abbrev pub SaysDenied : Deny → TrySplit → Type 0
SaysDenied (denies.Again saw) answer = answer ≡ tries.Again saw
SaysDenied (denies.Need p) answer = ⊥
SaysDenied (denies.Crowded p) answer = ⊥
SaysDenied (denies.Worn p) answer = answer ≡ tries.Worn p

-- where fresh pages were refused so
abbrev pub SaysRefused : Fresh → TrySplit → Type 0
SaysRefused (freshes.Pages group) answer = ⊥
SaysRefused (freshes.Again saw) answer = answer ≡ tries.Again saw
SaysRefused (freshes.Worn p) answer = answer ≡ tries.Worn p
SaysRefused (freshes.Full pages next need) answer = answer ≡ tries.Full pages next need

module _ {X : Type 0} (L : Layout) where
  -- Why frames, locks and n pages were not all taken: there were no frames for the pages; one of the two could not be
  -- locked; or there were no fresh
  -- pages by then
  pub data IsUntaken (n : ℕ) (first second : OptGuard) (v w : View X) (answer : TrySplit) : Type 0 where
    short : (refused : Alloc) → IsShort n refused v w → SaysShort refused answer → IsUntaken n first second v w answer
    unlocked : (deny : Deny) → IsNotLocked L first second deny v w → SaysDenied deny answer → IsUntaken n first second v w answer
    unclaimed : (refused : Fresh) → IsRefusedPages L n first second refused v w → SaysRefused refused answer
        → IsUntaken n first second v w answer

-- ---- what a part of the preparation answers where it was refused

module _ {X : Type 0} where
  -- one frame more was refused
  abbrev pub LacksSecond : List ℕ → TrySplit → View X → View X → Type 0
  LacksSecond frames answer v w = (refused : Alloc) × IsSecondRefused frames refused v w × SaysShort refused answer

  -- n frames were not to be had
  abbrev pub LacksFrames : ℕ → TrySplit → View X → View X → Type 0
  LacksFrames n answer v w = (refused : Alloc) × IsShort n refused v w × SaysShort refused answer
