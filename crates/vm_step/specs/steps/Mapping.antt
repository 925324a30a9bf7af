-- A page that is put into a frame, taken out of it, made dirty or clean: their events. What they ask and tell stands
-- in vm_rule/specs/Mappings.
use Rattle.std.specs.Prelude.{◌<◌, ◌^◌, Bool, List, None, Option, slice_set, Some, ℕ}
use Rattle.vm_event.specs.Prelude.{trans_word}
use Rattle.vm_event.specs.declared.event.Event.TheVariants.{Clean, Clear, Dirty, Install}
use Rattle.vm_event.specs.declared.event.Seen.TheVariants as sights
use Rattle.vm_rule.specs.Prelude.{clean_in, CleanTold, ClearTold, dirty_in, DirtyTold}
use Rattle.vm_rule.specs.Prelude.{index_of, InstallTold, IsWritten, Kept, MayPutInto}
use Rattle.vm_rule.specs.Prelude.{StandsClean, StandsIn, Start, Stored, Table}
use Rattle.vm_rule.specs.declared.view.WordPlace.TheVariants as places
use Rattle.vm_step.specs.Prelude.{IsEvent, IsPassOf, Origin, table_after, View}

module _ {X B : Type 0} (stored : B → Stored) (keeps : Start → Kept X → Type 0)
    (tied : Start → ℕ → List ℕ → ℕ → List ℕ → Type 0) (tells : Bool) where
  -- a page that is put into a frame of the pass: its translation word says that it stands there clean, and nothing is
  -- seen
  abbrev pub InstallIsItsEvent : Type 0
  InstallIsItsEvent =
      (start : Origin) (s : Table (Option B) (View X)) (id p f : ℕ) (v w : View X)
      → IsPassOf stored start keeps tied tells s id v → p < start.pages
      → f < start.frames → f < 2 ^ 32 → MayPutInto v p f → InstallTold p f v w
      → IsEvent stored start s
      (table_after s (slice_set s.words (index_of start (places.Translation p)) (trans_word (Some (clean_in f))))
      id w)
      (Install id p f) sights.Done

  -- a clean page that is taken out of its frame: its translation word says that it is not resident, and nothing is seen
  abbrev pub ClearIsItsEvent : Type 0
  ClearIsItsEvent =
      (start : Origin) (s : Table (Option B) (View X)) (id p f : ℕ) (v w : View X)
      → IsPassOf stored start keeps tied tells s id v → StandsClean v p f
      → ClearTold p f v w
      → IsEvent stored start s
      (table_after s (slice_set s.words (index_of start (places.Translation p)) (trans_word None)) id w)
      (Clear id p) sights.Done

  -- a page that is made dirty: its translation word says so of its frame, and nothing is seen
  abbrev pub SetDirtyIsItsEvent : Type 0
  SetDirtyIsItsEvent =
      (start : Origin) (s : Table (Option B) (View X)) (id p f : ℕ) (v w : View X)
      → IsPassOf stored start keeps tied tells s id v → StandsIn v p f
      → DirtyTold p f v w
      → IsEvent stored start s
      (table_after s (slice_set s.words (index_of start (places.Translation p)) (trans_word (Some (dirty_in f))))
      id w)
      (Dirty id p) sights.Done

  -- a page that is made clean: the same
  abbrev pub SetCleanIsItsEvent : Type 0
  SetCleanIsItsEvent =
      (start : Origin) (s : Table (Option B) (View X)) (id p f : ℕ) (v w : View X)
      → IsPassOf stored start keeps tied tells s id v → IsWritten v p f
      → CleanTold p f v w
      → IsEvent stored start s
      (table_after s (slice_set s.words (index_of start (places.Translation p)) (trans_word (Some (clean_in f))))
      id w)
      (Clean id p) sights.Done
