-- The events of the steps on a group's word, a definition for each kind.
use Rattle.std.specs.Prelude.{[], ◌-◌, ◌+◌, ◌<◌, ◌==◌, ◌^◌, ◌≡◌, Bool, if◌then◌else◌, List, None, Option, slice_set, ℕ}
use Rattle.vm_event.specs.Prelude.{EVICTED, LOCKED, MARKED, MAX_VERSION, MayLock, MayShare, one_share_more, state_of}
use Rattle.vm_event.specs.Prelude.{UNLOCKED, version_of, word_of}
use Rattle.vm_event.specs.declared.event.Event.TheVariants.{LockS, LockW, LockX, Look, Mark, ReleaseE, UnlockS, Unmark}
use Rattle.vm_event.specs.declared.event.Event.TheVariants.{Release, Upgrade}
use Rattle.vm_event.specs.declared.event.Seen.TheVariants as sights
use Rattle.vm_event.specs.Groups.{head_in}
use Rattle.vm_owner.specs.{declared.Entry.Entry, Kept.Change}
use Rattle.vm_rule.specs.{Looks.left_at, Locks.MarkTold, Locks.MayRaiseLock, Locks.UpgradeTold, Locks.WriteLockTold}
use Rattle.vm_rule.specs.{declared.view.Origin.Origin, declared.view.View.View, Spread.group_of}
use Rattle.vm_rule.specs.Prelude.{EvictTold, Kept, LockTold, LookTold, ReleaseTold, seat_of, ShareTold}
use Rattle.vm_rule.specs.Prelude.{Start, Stored, Table, UnshareTold}
use Rattle.vm_step.specs.{Over.InTurn, Prelude.exchange_sees, Prelude.table_after}
use Rattle.vm_step.specs.steps.{Release.MayEvict, Release.MayGiveUpAll, Share.MayUnshare}
use Rattle.vm_group_step.specs.Events.{AreEventsOver, IsEventOver, MayStepOver}

-- the word that an exchange leaves
abbrev pub exchanged_to : ℕ → ℕ → ℕ → ℕ
exchanged_to expects new found = if found == expects then new else found

module _ {X B : Type 0} (stored : B → Stored) (keeps : Start → Kept X → Type 0)
    (tied : Start → ℕ → List ℕ → ℕ → List ℕ → Type 0) (tells : Bool) where
  -- an exclusive lock of a group that is tried sees whether it was taken, and the word where it was not
  abbrev pub LockGroupIsItsEvent : Type 0
  LockGroupIsItsEvent =
      (start : Origin) (expects : ℕ) → AreEventsOver {X = X} {B = B} stored start keeps tied tells
      (λ q v. MayLock expects) (λ q. LockTold tied q expects) (exchanged_to expects (word_of LOCKED (version_of expects)))
      (λ id h. LockX id h expects) (λ v h found. exchange_sees expects found)

  -- so does a lock for write-back
  abbrev pub LockGroupWriteBackIsItsEvent : Type 0
  LockGroupWriteBackIsItsEvent =
      (start : Origin) (expects : ℕ) → AreEventsOver {X = X} {B = B} stored start keeps tied tells
      (λ q v. state_of expects ≡ MARKED) (λ q. WriteLockTold tied q expects)
      (exchanged_to expects (word_of 1 (version_of expects)))
      (λ id h. LockW id h expects) (λ v h found. exchange_sees expects found)

  -- one that is to become exclusive
  abbrev pub UpgradeGroupIsItsEvent : Type 0
  UpgradeGroupIsItsEvent =
      (start : Origin) (expects : ℕ) → AreEventsOver {X = X} {B = B} stored start keeps tied tells
      (λ q v. MayRaiseLock v q expects) (λ q. UpgradeTold tied q expects)
      (exchanged_to expects (word_of LOCKED (version_of expects)))
      (λ id h. Upgrade id h expects) (λ v h found. exchange_sees expects found)

  -- a mark
  abbrev pub MarkGroupIsItsEvent : Type 0
  MarkGroupIsItsEvent =
      (start : Origin) (expects : ℕ) → AreEventsOver {X = X} {B = B} stored start keeps tied tells
      (λ q v. state_of expects ≡ UNLOCKED) (λ q n v w. MarkTold q expects n (word_of MARKED (version_of expects)) v w)
      (exchanged_to expects (word_of MARKED (version_of expects)))
      (λ id h. Mark id h expects) (λ v h found. exchange_sees expects found)

  -- a mark that is to be taken away
  abbrev pub UnmarkGroupIsItsEvent : Type 0
  UnmarkGroupIsItsEvent =
      (start : Origin) (expects : ℕ) → AreEventsOver {X = X} {B = B} stored start keeps tied tells
      (λ q v. state_of expects ≡ MARKED) (λ q n v w. MarkTold q expects n (word_of UNLOCKED (version_of expects)) v w)
      (exchanged_to expects (word_of UNLOCKED (version_of expects)))
      (λ id h. Unmark id h expects) (λ v h found. exchange_sees expects found)

  -- and a share
  abbrev pub ShareGroupIsItsEvent : Type 0
  ShareGroupIsItsEvent =
      (start : Origin) (expects : ℕ) → AreEventsOver {X = X} {B = B} stored start keeps tied tells
      (λ q v. MayShare expects) (λ q. ShareTold tied q expects None)
      (exchanged_to expects (word_of (one_share_more (state_of expects)) (version_of expects)))
      (λ id h. LockS id h expects) (λ v h found. exchange_sees expects found)

  -- a share of a group that is given up sees the word before
  abbrev pub UnshareGroupIsItsEvent : Type 0
  UnshareGroupIsItsEvent =
      (start : Origin) → AreEventsOver {X = X} {B = B} stored start keeps tied tells
      (λ q v. MayUnshare v q) UnshareTold (λ found. found - 2 ^ 56) (λ id h. UnlockS id h) (λ v h found. sights.Word found)

  -- a look at a group's word sees it, and what it leaves of the pass's open read of the first page
  abbrev pub LookGroupIsItsEvent : (ℕ → Option X) → Type 0
  LookGroupIsItsEvent said =
      (start : Origin) → AreEventsOver {X = X} {B = B} stored start keeps tied tells
      (λ q v. Unit {0}) (λ q. LookTold tied q (said q)) (λ found. found) (λ id h. Look id h)
      (λ v h found. sights.Look found (left_at found (seat_of v h).reading))

  -- a group's release as Evicted sees nothing
  abbrev pub ReleaseGroupEvictedIsItsEvent : Type 0
  ReleaseGroupEvictedIsItsEvent =
      (start : Origin) (version : ℕ) → version < MAX_VERSION → AreEventsOver {X = X} {B = B} stored start keeps tied tells
      (λ q v. MayEvict v q version) (λ q n v w. EvictTold q version v w) (λ _. word_of EVICTED (version + 1))
      (λ id h. ReleaseE id h) (λ v h found. sights.Done)

  -- A group's release sees nothing: each of its pages is Unlocked at its next version, with its draft for words, where
  -- the pages could be released together.
  abbrev pub ReleaseGroupIsItsEvent : (Start → List ℕ → List Change → List (Entry X) → Type 0) → Type 0
  ReleaseGroupIsItsEvent may_release =
      (start : Origin) (s : Table (Option B) (View X)) (id h version : ℕ) (rest : List ℕ) (said : Option X) (v w : View X)
      → MayStepOver stored start keeps tied tells s id v → h < start.pages → head_in start.groups h ≡ h
      → version < MAX_VERSION → MayGiveUpAll may_release (group_of start.groups h) h version rest said v
      → InTurn (λ q _. ReleaseTold q version (if q == h then rest else []) (if q == h then said else None))
      (group_of start.groups h) (version + 1) v w
      → IsEventOver stored start s (table_after s (slice_set s.words h (version + 1)) id w) (Release id h) sights.Done
