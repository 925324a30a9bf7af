-- Frames taken from a bundle or given back, its load: what may be taken and given, and their events. What they tell
-- stands in vm_rule/specs/Bundles.
use Rattle.std.specs.Prelude.{◌≡◌, ◌≢◌, bit_and, bit_or, bit_xor, Bool, List, Option, slice_set, true, ℕ}
use Rattle.vm_event.specs.{declared.event.Event.TheVariants.BLoad, declared.event.Event.TheVariants.Give}
use Rattle.vm_event.specs.{declared.event.Event.TheVariants.Take, Prelude.in_mask}
use Rattle.vm_event.specs.declared.event.Seen.TheVariants as sights
use Rattle.vm_rule.specs.{declared.view.Origin.Origin, declared.view.View.View}
use Rattle.vm_rule.specs.Prelude.{BundleTold, GiveTold, has, index_of, Kept, Start, Stored, Table, TakeTold}
use Rattle.vm_rule.specs.declared.view.WordPlace.TheVariants as places
use Rattle.vm_step.specs.Events.{exchange_sees, exchanged, FindsAt, IsEvent, IsPassOf, table_after}

-- some of the bits expected, and not none
pub record IsMaskOf (expects mask : ℕ) : Type 0 where
  pub some : mask ≢ 0
  pub among : bit_and mask expects ≡ mask

module _ {X : Type 0} where
  -- the pass holds all frames of the mask, which is not empty
  pub record PassMayGive (v : View X) (g mask : ℕ) : Type 0 where
    pub some : mask ≢ 0
    pub holds : (f : ℕ) → in_mask g mask f ≡ true → has f v.frames ≡ true

module _ {X B : Type 0} (stored : B → Stored) (keeps : Start → Kept X → Type 0)
    (tied : Start → ℕ → List ℕ → ℕ → List ℕ → Type 0) (tells : Bool) where
  -- a load of a bundle word sees the word
  abbrev pub BloadIsItsEvent : Type 0
  BloadIsItsEvent =
      (start : Origin) (s : Table (Option B) (View X)) (id g found : ℕ) (v w : View X) → IsPassOf stored start keeps tied tells s id v
      → FindsAt start s (places.Bundle g) found → BundleTold g found v w
      → IsEvent stored start s (table_after s s.words id w) (BLoad id g) (sights.Word found)

  -- a take that is tried sees whether the word was the one expected, and the word where it was not
  abbrev pub TakeIsItsEvent : Type 0
  TakeIsItsEvent =
      (start : Origin) (s : Table (Option B) (View X)) (id g expects mask found : ℕ) (v w : View X)
      → IsPassOf stored start keeps tied tells s id v
      → FindsAt start s (places.Bundle g) found → IsMaskOf expects mask → TakeTold g expects mask found v w
      → IsEvent stored start s
      (table_after s (exchanged s.words (index_of start (places.Bundle g)) expects found (bit_xor expects mask))
      id w)
      (Take id g expects mask) (exchange_sees expects found)

  -- a give sees the word before
  abbrev pub GiveIsItsEvent : Type 0
  GiveIsItsEvent =
      (start : Origin) (s : Table (Option B) (View X)) (id g mask found : ℕ) (v w : View X) → IsPassOf stored start keeps tied tells s id v
      → FindsAt start s (places.Bundle g) found → PassMayGive v g mask → GiveTold g mask found v w
      → IsEvent stored start s
      (table_after s (slice_set s.words (index_of start (places.Bundle g)) (bit_or found mask)) id w)
      (Give id g mask)
      (sights.Word found)
