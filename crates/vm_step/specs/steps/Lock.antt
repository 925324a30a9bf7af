-- An exclusive lock: its event. What it tells, `LockTold`, stands in vm_rule/specs/Locks, with the words that it may
-- be taken at.
use Rattle.std.specs.Prelude.{Bool, List, Option, ℕ}
use Rattle.vm_event.specs.{declared.event.Event.TheVariants.LockX, Prelude.LOCKED, Prelude.MayLock}
use Rattle.vm_event.specs.{Prelude.version_of, Prelude.word_of}
use Rattle.vm_rule.specs.Prelude.{Kept, LockTold, Start, Stored, Table}
use Rattle.vm_rule.specs.declared.view.WordPlace.TheVariants as places
use Rattle.vm_step.specs.Prelude.{exchange_sees, exchanged, IsEvent, IsPassOf, Origin, table_after, View}
use Rattle.vm_step.specs.Events.{FindsAt}

module _ {X B : Type 0} (stored : B → Stored) (keeps : Start → Kept X → Type 0)
    (tied : Start → ℕ → List ℕ → ℕ → List ℕ → Type 0) (tells : Bool) where
  -- an exclusive lock that is tried sees whether it was taken, and the word where it was not
  abbrev pub LockExclusiveIsItsEvent : Type 0
  LockExclusiveIsItsEvent =
      (start : Origin) (s : Table (Option B) (View X)) (id p expects found : ℕ) (v w : View X)
      → IsPassOf stored start keeps tied tells s id v
      → FindsAt start s (places.State p) found → MayLock expects → LockTold tied p expects found v w
      → IsEvent stored start s
      (table_after s (exchanged s.words p expects found (word_of LOCKED (version_of expects))) id w)
      (LockX id p expects)
      (exchange_sees expects found)
