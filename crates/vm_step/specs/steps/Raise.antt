-- A fault word that is raised: when it may be, and its event. What it tells, `RaiseTold`, stands in
-- vm_rule/specs/Faults.
use Rattle.std.specs.Prelude.{◌<◌, ◌≡◌, Bool, List, Option, slice_set, true, ℕ}
use Rattle.vm_event.specs.declared.event.Event.TheVariants.{Raise}
use Rattle.vm_event.specs.declared.event.Seen.TheVariants as sights
use Rattle.vm_rule.specs.Prelude.{held_at, index_of, Kept, may_call, RaiseTold, seat_of, Start, Stored, Table}
use Rattle.vm_rule.specs.{declared.view.Origin.Origin, declared.view.View.View}
use Rattle.vm_rule.specs.declared.view.WordPlace.TheVariants as places
use Rattle.vm_step.specs.Events.{IsEvent, IsPassOf, table_after}

module _ {X : Type 0} where
  pub record MayRaise (v : View X) (p count : ℕ) : Type 0 where
    pub calls : may_call (seat_of v p) ≡ true
    pub is : count ≡ (held_at v p).block.count

module _ {X B : Type 0} (stored : B → Stored) (keeps : Start → Kept X → Type 0)
    (tied : Start → ℕ → List ℕ → ℕ → List ℕ → Type 0) (tells : Bool) where
  -- a raise of a fault word sees nothing: the fault word is the count of the page's block
  abbrev pub RaiseIsItsEvent : Type 0
  RaiseIsItsEvent =
      (start : Origin) (s : Table (Option B) (View X)) (id p count : ℕ) (v w : View X)
      → IsPassOf stored start keeps tied tells s id v → p < start.pages
      → MayRaise v p count → RaiseTold p count v w
      → IsEvent stored start s (table_after s (slice_set s.words (index_of start (places.Fault p)) count) id w) (Raise id p) sights.Done
