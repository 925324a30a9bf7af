-- A load of a translation word: its event. What it tells, `TranslationTold`, stands in vm_rule/specs/Loads.
use Rattle.std.specs.Prelude.{Bool, List, Option, ℕ}
use Rattle.vm_event.specs.declared.event.Event.TheVariants.{TLoad}
use Rattle.vm_event.specs.declared.event.Seen.TheVariants as sights
use Rattle.vm_rule.specs.Prelude.{Kept, Start, Stored, Table, TranslationTold}
use Rattle.vm_rule.specs.declared.view.WordPlace.TheVariants as places
use Rattle.vm_step.specs.{Events.FindsAt, Prelude.IsEvent, Prelude.IsPassOf}
use Rattle.vm_step.specs.{Prelude.Origin, Prelude.table_after, Prelude.View}

module _ {X B : Type 0} (stored : B → Stored) (keeps : Start → Kept X → Type 0)
    (tied : Start → ℕ → List ℕ → ℕ → List ℕ → Type 0) (tells : Bool) where
  -- a load of a translation word sees the word
  abbrev pub TloadIsItsEvent : Type 0
  TloadIsItsEvent =
      (start : Origin) (s : Table (Option B) (View X)) (id p found : ℕ) (v w : View X) → IsPassOf stored start keeps tied tells s id v
      → FindsAt start s (places.Translation p) found → TranslationTold p found v w
      → IsEvent stored start s (table_after s s.words id w) (TLoad id p) (sights.Word found)
