-- The owner word of a frame: it is stored for a page that stands there, which the pass has locked exclusively, or
-- loaded. What the steps tell, and
-- their events.
use Rattle.std.specs.Prelude.{[], ◌+◌, ◌≤◌, Bool, List, Option, slice_set, ℕ}
use Rattle.vm_event.specs.declared.event.Event.TheVariants.{Disown, OLoad, Own}
use Rattle.vm_event.specs.declared.event.Seen.TheVariants as sights
use Rattle.vm_rule.specs.Prelude.{Brings, did_load, did_store, Event, held_at, index_of}
use Rattle.vm_rule.specs.Prelude.{Kept, put, StandsIn, Start, Stored, Table}
use Rattle.vm_rule.specs.declared.view.WordPlace.TheVariants as places
use Rattle.vm_step.specs.{Events.FindsAt, Prelude.IsEvent, Prelude.IsPassOf}
use Rattle.vm_step.specs.{Prelude.Origin, Prelude.table_after, Prelude.View}

module _ {X : Type 0} where
  -- the pass knows this of the owner word of page p's frame
  abbrev pub owned_view : ℕ → ℕ → View X → View X
  owned_view p word v = record v { held = put p (record (held_at v p) { owner = word }) v.held }

  -- the owner word of frame f, in which page p stands, was stored
  pub record OwnerTold (p f word : ℕ) (v w : View X) : Type 0 where
    pub brings : Brings (did_store (places.Owner f) word) [] [] v (owned_view p word v) w

  -- a load of frame f's owner word, which names a page of the table, or none
  pub record OwnerLoadTold (f found : ℕ) (v w : View X) : Type 0 where
    pub brings : Brings (did_load (places.Owner f) found) [] [] v v w
    pub inside : found ≤ v.start.pages

module _ {X B : Type 0} (stored : B → Stored) (keeps : Start → Kept X → Type 0)
    (tied : Start → ℕ → List ℕ → ℕ → List ℕ → Type 0) (tells : Bool) where
  -- this word is stored as the owner word of the page's frame, by this event, and nothing is seen
  abbrev pub IsOwnerEvent : (ℕ → ℕ) → (ℕ → ℕ → Event) → Type 0
  IsOwnerEvent word event =
      (start : Origin) (s : Table (Option B) (View X)) (id p f : ℕ) (v w : View X)
      → IsPassOf stored start keeps tied tells s id v → StandsIn v p f
      → OwnerTold p f (word p) v w
      → IsEvent stored start s (table_after s (slice_set s.words (index_of start (places.Owner f)) (word p)) id w) (event id p) sights.Done

  -- a page that is said to own its frame: the frame's owner word is the page's number, and one more
  abbrev pub OwnIsItsEvent : Type 0
  OwnIsItsEvent = IsOwnerEvent (λ p. p + 1) Own

  -- a page that is said to own its frame no more: the owner word is 0
  abbrev pub DisownIsItsEvent : Type 0
  DisownIsItsEvent = IsOwnerEvent (λ p. 0) Disown

  -- a load of an owner word sees the word
  abbrev pub OloadIsItsEvent : Type 0
  OloadIsItsEvent =
      (start : Origin) (s : Table (Option B) (View X)) (id f found : ℕ) (v w : View X) → IsPassOf stored start keeps tied tells s id v
      → FindsAt start s (places.Owner f) found → OwnerLoadTold f found v w
      → IsEvent stored start s (table_after s s.words id w) (OLoad id f) (sights.Word found)
