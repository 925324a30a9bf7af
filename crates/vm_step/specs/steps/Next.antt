-- A load of the next word, and a claim from it on: which pages may be claimed, and their events. What they tell
-- stands in vm_rule/specs/Nexts.
use Rattle.std.specs.Prelude.{◌+◌, ◌<◌, ◌≡◌, ◌≤◌, ◌⊎◌, Bool, false, IsSome, List, Option, true, ℕ}
use Rattle.vm_event.specs.declared.event.Event.TheVariants.{Claim, NLoad}
use Rattle.vm_event.specs.declared.event.Seen.TheVariants as sights
use Rattle.vm_rule.specs.Prelude.{ClaimTold, has, held_at, index_of, Kept, NextTold, seat_of, Start, Stored, Table}
use Rattle.vm_rule.specs.{declared.view.Origin.Origin, declared.view.View.View}
use Rattle.vm_rule.specs.declared.view.WordPlace.TheVariants as places
use Rattle.vm_step.specs.Events.{exchange_sees, exchanged, FindsAt, IsEvent, IsPassOf, table_after}

module _ {X : Type 0} where
  -- the pass holds the pages from x on, n of them, exclusively, all resident; none is a member of a group still to be
  -- released
  pub record PassMayClaim (v : View X) (x n : ℕ) : Type 0 where
    pub few : (n ≡ 1) ⊎ (n ≡ 2)
    pub inside : x + n ≤ v.start.pages
    pub owns : (p : ℕ) → x ≤ p → p < x + n → (seat_of v p).exclusive ≡ true
    pub resident : (p : ℕ) → x ≤ p → p < x + n → IsSome (held_at v p).mapping
    pub free : (p : ℕ) → x ≤ p → p < x + n → has p v.pending ≡ false

module _ {X B : Type 0} (stored : B → Stored) (keeps : Start → Kept X → Type 0)
    (tied : Start → ℕ → List ℕ → ℕ → List ℕ → Type 0) (tells : Bool) where
  -- a load of the next word sees the word
  abbrev pub NloadIsItsEvent : Type 0
  NloadIsItsEvent =
      (start : Origin) (s : Table (Option B) (View X)) (id found : ℕ) (v w : View X) → IsPassOf stored start keeps tied tells s id v
      → FindsAt start s places.Next found → NextTold found v w → IsEvent stored start s (table_after s s.words id w)
      (NLoad id) (sights.Word found)

  -- a claim that is tried sees whether the word was the one expected, and the word where it was not
  abbrev pub ClaimIsItsEvent : Type 0
  ClaimIsItsEvent =
      (start : Origin) (s : Table (Option B) (View X)) (id x n found : ℕ) (v w : View X) → IsPassOf stored start keeps tied tells s id v
      → FindsAt start s places.Next found → PassMayClaim v x n → ClaimTold x n found v w
      → IsEvent stored start s (table_after s (exchanged s.words (index_of start places.Next) x found (x + n)) id w)
      (Claim id x n) (exchange_sees x found)
