-- Passes that are split, joined, or meet: their events, and what is none. What they tell stands in
-- vm_rule/specs/Joins and Hearing, and in specs/NoEvents.
use Rattle.std.specs.Prelude.{[], ◌<◌, ◌≡◌, ◌≢◌, Bool, length, List, Option, true, ℕ}
use Rattle.vm_event.specs.{declared.event.Event.TheVariants.NLoad, Prelude.get_elem?, Prelude.some}
use Rattle.vm_event.specs.declared.event.Seen.TheVariants as sights
use Rattle.vm_rule.specs.Prelude.{HoldsNoPage, Kept, OnlyKnows, Start, Stored, Table, TakesOver}
use Rattle.vm_rule.specs.declared.view.WordPlace.TheVariants as places
use Rattle.vm_step.specs.{Events.FindsAt, Prelude.IsEvent, Prelude.IsPassOf}
use Rattle.vm_step.specs.{Prelude.Origin, Prelude.table_after, Prelude.View}
use Rattle.vm_step.specs.NoEvents.{IsSplitOff, IsTakenIn, table_heard, table_joined, table_split}

module _ {X B : Type 0} (stored : B → Stored) (keeps : Start → Kept X → Type 0)
    (tied : Start → ℕ → List ℕ → ℕ → List ℕ → Type 0) (tells : Bool) where
  -- a split changes no word and no block: there is one actor more, which has nothing
  abbrev pub SplitIsNoEvent : Type 0
  SplitIsNoEvent =
      (start : Origin) (s : Table (Option B) (View X)) (id : ℕ) (part : Bool) (v : View X)
      → (is : IsPassOf stored start keeps tied tells s id v)
      → 0 < length v.used → IsSplitOff stored keeps tied start tells s is.rule (table_split s id part v)

  -- a join changes no word and no block: the frames and the page numbers of the pass that goes are those of the one
  -- that takes it in, and its reads are closed
  abbrev pub JoinIsNoEvent : Type 0
  JoinIsNoEvent =
      (start : Origin) (s : Table (Option B) (View X)) (id other : ℕ) (v w : View X)
      → (is : IsPassOf stored start keeps tied tells s id v) → other ≢ id
      → get_elem? s.views other ≡ some w → w.live ≡ true → (v.told_releases ≡ []) × (v.told ≡ [])
      → (w.told_releases ≡ []) × (w.told ≡ []) → HoldsNoPage w
      → IsTakenIn stored keeps tied start tells s is.rule id other (table_joined s id other v w)

  -- a hearing changes no word and no block: the pass that goes has no frames and no page numbers, and its reads are
  -- closed
  abbrev pub HearingIsNoEvent : Type 0
  HearingIsNoEvent =
      (start : Origin) (s : Table (Option B) (View X)) (id other : ℕ) (v w : View X)
      → (is : IsPassOf stored start keeps tied tells s id v) → other ≢ id
      → get_elem? s.views other ≡ some w → w.live ≡ true → (v.told_releases ≡ []) × (v.told ≡ [])
      → (w.told_releases ≡ []) × (w.told ≡ []) → OnlyKnows w
      → IsTakenIn stored keeps tied start tells s is.rule id other (table_heard s id other v w)

  -- the load by which a pass takes over what it was told sees the next word
  abbrev pub FollowIsItsEvent : Type 0
  FollowIsItsEvent =
      (start : Origin) (s : Table (Option B) (View X)) (id : ℕ) (v w : View X) → (f : TakesOver v w)
      → IsPassOf stored start keeps tied tells s id v
      → FindsAt start s places.Next f.found
      → IsEvent stored start s (table_after s s.words id w) (NLoad id) (sights.Word f.found)
