-- A lock for write-back, and one that becomes exclusive: their events. `WriteLockTold`, `UpgradeTold` and
-- `MayRaiseLock` stand in vm_rule/specs/Locks.
use Rattle.std.specs.Prelude.{◌≡◌, Bool, List, Option, ℕ}
use Rattle.vm_event.specs.Prelude.{LOCKED, MARKED, state_of, version_of, word_of}
use Rattle.vm_event.specs.declared.event.Event.TheVariants.{LockW, Upgrade}
use Rattle.vm_rule.specs.Prelude.{Kept, MayRaiseLock, Start, Stored, Table, UpgradeTold, WriteLockTold}
use Rattle.vm_rule.specs.declared.view.WordPlace.TheVariants as places
use Rattle.vm_step.specs.Prelude.{exchange_sees, exchanged, IsEvent, IsPassOf, Origin, table_after, View}
use Rattle.vm_step.specs.Events.{FindsAt}

module _ {X B : Type 0} (stored : B → Stored) (keeps : Start → Kept X → Type 0)
    (tied : Start → ℕ → List ℕ → ℕ → List ℕ → Type 0) (tells : Bool) where
  -- a lock for write-back that is tried sees the same
  abbrev pub LockWriteBackIsItsEvent : Type 0
  LockWriteBackIsItsEvent =
      (start : Origin) (s : Table (Option B) (View X)) (id p expects found : ℕ) (v w : View X)
      → IsPassOf stored start keeps tied tells s id v
      → FindsAt start s (places.State p) found → state_of expects ≡ MARKED → WriteLockTold tied p expects found v w
      → IsEvent stored start s (table_after s (exchanged s.words p expects found (word_of 1 (version_of expects))) id
      w) (LockW id p expects)
      (exchange_sees expects found)

  -- a lock for write-back that is tried to be made exclusive sees the same
  abbrev pub UpgradeIsItsEvent : Type 0
  UpgradeIsItsEvent =
      (start : Origin) (s : Table (Option B) (View X)) (id p expects found : ℕ) (v w : View X)
      → IsPassOf stored start keeps tied tells s id v
      → FindsAt start s (places.State p) found → MayRaiseLock v p expects → UpgradeTold tied p expects found v w
      → IsEvent stored start s
      (table_after s (exchanged s.words p expects found (word_of LOCKED (version_of expects))) id w)
      (Upgrade id p expects)
      (exchange_sees expects found)
