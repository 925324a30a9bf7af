-- Page numbers taken from a free-number word or given, its load: what may be taken and given, and their events. What
-- they tell stands in vm_rule/specs/FreeNumbers.
use Rattle.std.specs.Prelude.{◌<◌, ◌≡◌, ◌≢◌, bit_or, bit_xor, Bool, List, Option, slice_set, true, ℕ}
use Rattle.vm_event.specs.declared.event.Event.TheVariants.{PBLoad, PGive, PTake}
use Rattle.vm_event.specs.Prelude.{in_mask}
use Rattle.vm_event.specs.declared.event.Seen.TheVariants as sights
use Rattle.vm_rule.specs.{declared.view.Origin.Origin, declared.view.View.View}
use Rattle.vm_rule.specs.FreeNumbers.{GiveNumbersTold, IsGivenBy, SpareTold, TakeNumbersTold}
use Rattle.vm_rule.specs.Prelude.{index_of, Kept, Start, Stored, Table}
use Rattle.vm_rule.specs.declared.view.WordPlace.TheVariants as places
use Rattle.vm_step.specs.Events.{exchange_sees, exchanged, FindsAt, IsEvent, IsPassOf, table_after}
use Rattle.vm_step.specs.steps.Bundle.{IsMaskOf}

module _ {X : Type 0} where
  -- the mask is not empty and is of pages; where blocks tell, the pass holds each number of it, or freed its page,
  -- and the page is no member still to be released,
  -- or has a draft of zeros and a number that it holds
  pub record PassMayGiveNumbers (v : View X) (g mask : ℕ) : Type 0 where
    pub some : mask ≢ 0
    pub inside : (p : ℕ) → in_mask g mask p ≡ true → p < v.start.pages
    pub mine : v.start.tells ≡ true → (p : ℕ) → in_mask g mask p ≡ true → IsGivenBy v p

module _ {X B : Type 0} (stored : B → Stored) (keeps : Start → Kept X → Type 0)
    (tied : Start → ℕ → List ℕ → ℕ → List ℕ → Type 0) (tells : Bool) where
  -- a load of a free-number word sees the word
  abbrev pub PbloadIsItsEvent : Type 0
  PbloadIsItsEvent =
      (start : Origin) (s : Table (Option B) (View X)) (id g found : ℕ) (v w : View X) → IsPassOf stored start keeps tied tells s id v
      → FindsAt start s (places.Spare g) found → SpareTold g found v w
      → IsEvent stored start s (table_after s s.words id w) (PBLoad id g) (sights.Word found)

  -- a take that is tried sees whether the word was the one expected, and the word where it was not
  abbrev pub PtakeIsItsEvent : Type 0
  PtakeIsItsEvent =
      (start : Origin) (s : Table (Option B) (View X)) (id g expects mask found : ℕ) (v w : View X)
      → IsPassOf stored start keeps tied tells s id v
      → FindsAt start s (places.Spare g) found → IsMaskOf expects mask → TakeNumbersTold g expects mask found v w
      → IsEvent stored start s
      (table_after s (exchanged s.words (index_of start (places.Spare g)) expects found (bit_xor expects mask)) id
      w)
      (PTake id g expects mask) (exchange_sees expects found)

  -- a give sees the word before
  abbrev pub PgiveIsItsEvent : Type 0
  PgiveIsItsEvent =
      (start : Origin) (s : Table (Option B) (View X)) (id g mask found : ℕ) (v w : View X) → IsPassOf stored start keeps tied tells s id v
      → FindsAt start s (places.Spare g) found → PassMayGiveNumbers v g mask → GiveNumbersTold g mask found v w
      → IsEvent stored start s
      (table_after s (slice_set s.words (index_of start (places.Spare g)) (bit_or found mask)) id w)
      (PGive id g mask)
      (sights.Word found)
