-- A pass that is brought up to date: its event. What it tells, `CatchTold`, stands in specs/Whole, as a pass with all
-- parts knows more.
use Rattle.std.specs.Prelude.{Bool, List, Option, ℕ}
use Rattle.vm_event.specs.declared.event.Event.TheVariants.{NLoad}
use Rattle.vm_event.specs.declared.event.Seen.TheVariants as sights
use Rattle.vm_rule.specs.Prelude.{CaughtUp, Kept, Start, Stored, Table}
use Rattle.vm_rule.specs.declared.view.WordPlace.TheVariants as places
use Rattle.vm_step.specs.{Events.FindsAt, Prelude.IsEvent, Prelude.IsPassOf}
use Rattle.vm_step.specs.{Prelude.Origin, Prelude.table_after, Prelude.View}

module _ {X B : Type 0} (stored : B → Stored) (keeps : Start → Kept X → Type 0)
    (tied : Start → ℕ → List ℕ → ℕ → List ℕ → Type 0) (tells : Bool) where
  -- the load by which a pass is brought up to date sees the next word
  abbrev pub CatchUpIsItsEvent : Type 0
  CatchUpIsItsEvent =
      (start : Origin) (s : Table (Option B) (View X)) (id : ℕ) (v w : View X) → (c : CaughtUp v w)
      → IsPassOf stored start keeps tied tells s id v
      → FindsAt start s places.Next c.found
      → IsEvent stored start s (table_after s s.words id w) (NLoad id) (sights.Word c.found)
