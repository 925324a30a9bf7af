-- A load or a store of a word of a frame: their events. `LoadTold` stands in vm_rule/specs/Loads, `StoresTold` and
-- `PassMayStore` in vm_rule/specs/Stores.
use Rattle.std.specs.Prelude.{◌<◌, ◌≡◌, Bool, List, Option, slice_set, Some, true, ℕ}
use Rattle.vm_event.specs.{declared.event.Event.TheVariants.Load, declared.event.Event.TheVariants.Store}
use Rattle.vm_event.specs.declared.event.Seen.TheVariants as sights
use Rattle.vm_rule.specs.Prelude.{Drafts, FillTold, frame_read_by, has, index_of, Kept}
use Rattle.vm_rule.specs.Prelude.{LoadTold, Start, Stored, StoreTold, Table}
use Rattle.vm_rule.specs.declared.view.WordPlace.TheVariants as places
use Rattle.vm_step.specs.{Events.FindsAt, Prelude.IsEvent, Prelude.IsPassOf}
use Rattle.vm_step.specs.{Prelude.Origin, Prelude.table_after, Prelude.View}

module _ {X B : Type 0} (stored : B → Stored) (keeps : Start → Kept X → Type 0)
    (tied : Start → ℕ → List ℕ → ℕ → List ℕ → Type 0) (tells : Bool) where
  -- a load of a word of a page's frame sees the word
  abbrev pub LoadIsItsEvent : Type 0
  LoadIsItsEvent =
      (start : Origin) (s : Table (Option B) (View X)) (id p f i found : ℕ) (v w : View X) → IsPassOf stored start keeps tied tells s id v
      → FindsAt start s (places.Content f i) found → p < start.pages → frame_read_by v p ≡ Some f
      → LoadTold p f i found v w
      → IsEvent stored start s (table_after s s.words id w) (Load id p i) (sights.Word found)

  -- a store into the frame of a page that the pass holds exclusively sees nothing: that word of the frame is the one
  -- stored
  abbrev pub StoreIsItsEvent : Type 0
  StoreIsItsEvent =
      (start : Origin) (s : Table (Option B) (View X)) (id p f i x : ℕ) (v w : View X)
      → IsPassOf stored start keeps tied tells s id v → f < start.frames
      → i < start.size → Drafts v p f → StoreTold p f i x v w
      → IsEvent stored start s (table_after s (slice_set s.words (index_of start (places.Content f i)) x) id w) (Store id f i x) sights.Done

  -- a store into a frame that the pass holds sees nothing: that word of the frame is the one stored
  abbrev pub FillIsItsEvent : Type 0
  FillIsItsEvent =
      (start : Origin) (s : Table (Option B) (View X)) (id f i x : ℕ) (v w : View X)
      → IsPassOf stored start keeps tied tells s id v → f < start.frames
      → i < start.size → has f v.frames ≡ true → FillTold f i x v w
      → IsEvent stored start s (table_after s (slice_set s.words (index_of start (places.Content f i)) x) id w) (Store id f i x) sights.Done
