-- The clock's hand that is moved on: its event. What it tells, `HandTold`, stands in vm_rule/specs/Bundles.
use Rattle.std.specs.Prelude.{Bool, List, Option, slice_set, ℕ}
use Rattle.vm_event.specs.{declared.event.Event.TheVariants.Hand, Prelude.hand_more}
use Rattle.vm_event.specs.declared.event.Seen.TheVariants as sights
use Rattle.vm_rule.specs.Prelude.{HandTold, index_of, Kept, Start, Stored, Table}
use Rattle.vm_rule.specs.declared.view.WordPlace.TheVariants as places
use Rattle.vm_step.specs.{Events.FindsAt, Prelude.IsEvent, Prelude.IsPassOf}
use Rattle.vm_step.specs.{Prelude.Origin, Prelude.table_after, Prelude.View}

module _ {X B : Type 0} (stored : B → Stored) (keeps : Start → Kept X → Type 0)
    (tied : Start → ℕ → List ℕ → ℕ → List ℕ → Type 0) (tells : Bool) where
  -- a move of the hand sees where it was
  abbrev pub HandIsItsEvent : Type 0
  HandIsItsEvent =
      (start : Origin) (s : Table (Option B) (View X)) (id found : ℕ) (v w : View X) → IsPassOf stored start keeps tied tells s id v
      → FindsAt start s places.Hand found → HandTold found v w
      → IsEvent stored start s (table_after s (slice_set s.words (index_of start places.Hand) (hand_more found)) id w)
      (Hand id) (sights.Word found)
