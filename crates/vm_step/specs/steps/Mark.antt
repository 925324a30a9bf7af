-- A mark that is set or taken away: their events. What they tell, `MarkTold`, stands in vm_rule/specs/Locks.
use Rattle.std.specs.Prelude.{◌≡◌, Bool, List, Option, ℕ}
use Rattle.vm_event.specs.Prelude.{MARKED, state_of, UNLOCKED, version_of, word_of}
use Rattle.vm_event.specs.declared.event.Event.TheVariants.{Mark, Unmark}
use Rattle.vm_rule.specs.Prelude.{Kept, MarkTold, Start, Stored, Table}
use Rattle.vm_rule.specs.declared.view.WordPlace.TheVariants as places
use Rattle.vm_step.specs.Prelude.{exchange_sees, exchanged, IsEvent, IsPassOf, Origin, table_after, View}
use Rattle.vm_step.specs.Events.{FindsAt}

module _ {X B : Type 0} (stored : B → Stored) (keeps : Start → Kept X → Type 0)
    (tied : Start → ℕ → List ℕ → ℕ → List ℕ → Type 0) (tells : Bool) where
  -- a mark that is tried sees whether it was set, and the word where it was not
  abbrev pub MarkIsItsEvent : Type 0
  MarkIsItsEvent =
      (start : Origin) (s : Table (Option B) (View X)) (id p expects found : ℕ) (v w : View X)
      → IsPassOf stored start keeps tied tells s id v
      → FindsAt start s (places.State p) found → state_of expects ≡ UNLOCKED
      → MarkTold p expects found (word_of MARKED (version_of expects)) v w
      → IsEvent stored start s
      (table_after s (exchanged s.words p expects found (word_of MARKED (version_of expects))) id w)
      (Mark id p expects)
      (exchange_sees expects found)

  -- a mark that is tried to be taken away sees the same
  abbrev pub UnmarkIsItsEvent : Type 0
  UnmarkIsItsEvent =
      (start : Origin) (s : Table (Option B) (View X)) (id p expects found : ℕ) (v w : View X)
      → IsPassOf stored start keeps tied tells s id v
      → FindsAt start s (places.State p) found → state_of expects ≡ MARKED
      → MarkTold p expects found (word_of UNLOCKED (version_of expects)) v w
      → IsEvent stored start s
      (table_after s (exchanged s.words p expects found (word_of UNLOCKED (version_of expects))) id w)
      (Unmark id p expects)
      (exchange_sees expects found)
