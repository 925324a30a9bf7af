-- The locks that an eviction has of a group, one behind another: for write-back, exclusive, and none.
use Rattle.std.specs.Prelude.{[], ◌+◌, ◌-◌, ◌^◌, ◌≡◌, false, List, map, ℕ}
use Rattle.vm_event.specs.Prelude.{EVICTED, LOCKED, no_seat, version_of, word_of}
use Rattle.vm_rule.specs.Prelude.{did_change, did_store, draft_of, has, held_at, IsUnheld, last_of, numbers, seat_of}
use Rattle.vm_rule.specs.declared.view.WordPlace.{WordPlace}
use Rattle.vm_step.specs.Prelude.{Did, KeepsFrames, Release, RunsAlone, StaysAlone, View}
use Rattle.vm_evict.specs.{Evictions.HasReleased, Stages.owning_seat}
use Rattle.vm_group_guard.specs.{Group.IsUnder, Steps.exchanges}
use Rattle.vm_group_evict.specs.{Leaving.LeavesGroup, Saving.AreUnderWriteBack}

-- the steps that give a share of each of these pages up, of a word that was this one
abbrev pub unsharings : ℕ → List ℕ → List Did
unsharings found qs = map (λ q. did_change (WordPlace.State q) found (found - 2 ^ 56)) qs

-- the steps that release these pages as evicted
abbrev pub evictions : ℕ → List ℕ → List Did
evictions version qs = map (λ q. did_store (WordPlace.State q) (word_of EVICTED (version + 1))) qs

module _ {X : Type 0} where
  -- their versions afterwards
  abbrev pub evicted_at : ℕ → View X → List ℕ → List Release
  evicted_at version v qs = map (λ q. record { page = q; version = version + 1; words = draft_of v q }) qs

  -- the group, which the pass had not locked, was locked for write-back from this word
  pub record IsTakenToWrite (h size word : ℕ) (v w : View X) : Type 0 where
    pub leaves : LeavesGroup h size (exchanges word word (word_of 1 (version_of word)) (numbers h size)) v w
    pub runs : RunsAlone (exchanges word word (word_of 1 (version_of word)) (numbers h size)) [] v w
    pub before : (q : ℕ) → IsUnder h size q → IsUnheld v q
    pub free : (q : ℕ) → IsUnder h size q → has q v.pending ≡ false
    pub under : AreUnderWriteBack h size w
    pub at : (q : ℕ) → IsUnder h size q → (last_of w q).version ≡ version_of word
    pub frames : KeepsFrames v w
    pub out : w.out ≡ v.out

  -- the lock became exclusive, where the pass's share was the group's one
  pub record IsRaised (h size word : ℕ) (v w : View X) : Type 0 where
    pub leaves : LeavesGroup h size (exchanges (word_of 1 (version_of word)) (word_of 1 (version_of word))
        (word_of LOCKED (version_of word)) (numbers h size)) v w
    pub runs : RunsAlone (exchanges (word_of 1 (version_of word)) (word_of 1 (version_of word))
        (word_of LOCKED (version_of word)) (numbers h size)) [] v w
    pub seats : (q : ℕ) → IsUnder h size q → seat_of w q ≡ owning_seat
    pub drafts : (q : ℕ) → IsUnder h size q → draft_of w q ≡ (last_of w q).words
    pub held : (q : ℕ) → IsUnder h size q → held_at w q ≡ held_at v q
    pub last : (q : ℕ) → IsUnder h size q → last_of w q ≡ last_of v q
    pub frames : KeepsFrames v w
    pub out : w.out ≡ v.out

  -- the share was given up, and nothing of the lock is left
  pub record IsGivenBack (h size : ℕ) (v w : View X) : Type 0 where
    pub found : ℕ
    pub leaves : LeavesGroup h size (unsharings found (numbers h size)) v w
    pub runs : RunsAlone (unsharings found (numbers h size)) [] v w
    pub seats : (q : ℕ) → IsUnder h size q → seat_of w q ≡ no_seat
    pub frames : KeepsFrames v w
    pub out : w.out ≡ v.out

  -- The group, which was in no frame, was released as evicted, each page at the version behind this word's with the
  -- words that it had.
  pub record IsLeftEvicted (h size word : ℕ) (v w : View X) : Type 0 where
    pub leaves : LeavesGroup h size (evictions (version_of word) (numbers h size)) v w
    pub runs : RunsAlone (evictions (version_of word) (numbers h size)) (evicted_at (version_of word) v
        (numbers h size)) v w
    pub seats : (q : ℕ) → IsUnder h size q → seat_of w q ≡ no_seat
    pub released : (q : ℕ) → IsUnder h size q → HasReleased q word v w
    pub alone : StaysAlone v w
    pub frames : KeepsFrames v w
    pub out : w.out ≡ v.out
