-- A step on a group's word is one event of the machine with groups.
use Rattle.std.specs.Prelude.{◌<◌, ◌^◌, ◌≡◌, Bool, length, List, Option, slice_index, slice_set, suc, true, zero, ℕ}
use Rattle.vm_event.specs.{declared.event.Seen.Seen, Prelude.after_event}
use Rattle.vm_event.specs.{Groups.GroupsFit, Groups.head_in, Prelude.Legal, Prelude.seen, Prelude.State}
use Rattle.vm_owner.specs.Numbers.{has}
use Rattle.vm_rule.specs.{declared.view.Origin.Origin, declared.view.View.View, Spread.group_of, Spread.spread_table}
use Rattle.vm_rule.specs.Prelude.{core_shown, Event, Kept, Start, Stored, Table}
use Rattle.vm_rule.specs.declared.view.WordPlace.TheVariants as places
use Rattle.vm_step.specs.{Events.FindsAt, Over.InTurn, Prelude.IsPassOf, Prelude.table_after}

-- the machine's owner word, where the table's names a page: the first page of its group
abbrev pub owner_over : List (ℕ × ℕ) → ℕ → ℕ
owner_over groups zero = zero
owner_over groups (suc p) = suc (head_in groups p)

module _ {X B : Type 0} (stored : B → Stored) (start : Origin) where
  -- the machine with groups that the table shows
  abbrev pub core_over : Table (Option B) (View X) → State
  core_over s =
      let c = core_shown stored start (spread_table start s) in
      record c { head = head_in start.groups; owners = λ f. owner_over start.groups (c.owners f) }

  -- from the machine that the table shows before, the event is legal, leads to the one that the table shows later, and
  -- sees this
  pub record IsEventOver (before later : Table (Option B) (View X)) (e : Event) (what : Seen) : Type 0 where
    pub legal : Legal (core_over before) e
    pub core : core_over later ≡ after_event (core_over before) e
    pub sees : seen (core_over before) e ≡ what

  -- the table meets the rule as its pages read it, and its pass id has this view, and may step on
  pub record MayStepOver (keeps : Start → Kept X → Type 0) (tied : Start → ℕ → List ℕ → ℕ → List ℕ → Type 0) (tells : Bool)
      (s : Table (Option B) (View X)) (id : ℕ) (v : View X) : Type 0 where
    pub pass : IsPassOf stored start keeps tied tells (spread_table start s) id v
    pub number : 0 < length v.used
    pub words : (q : ℕ) → slice_index s.words q < 2 ^ 64
    pub fit : GroupsFit start.pages start.groups

  -- Each step on the word of a group's first page that the pages may make, that found this number, left a new one,
  -- and told this of each page in turn, is this event.
  abbrev pub AreEventsOver : (Start → Kept X → Type 0) → (Start → ℕ → List ℕ → ℕ → List ℕ → Type 0) → Bool
      → (May : ℕ → View X → Type 0) → (Told : ℕ → ℕ → View X → View X → Type 0) → (left : ℕ → ℕ)
      → (event : ℕ → ℕ → Event) → (sees : View X → ℕ → ℕ → Seen) → Type 0
  AreEventsOver keeps tied tells May Told left event sees =
      (s : Table (Option B) (View X)) (id h found : ℕ) (v w : View X)
      → MayStepOver keeps tied tells s id v → FindsAt start s (places.State h) found → head_in start.groups h ≡ h
      → ((q : ℕ) → has q (group_of start.groups h) ≡ true → May q v)
      → InTurn Told (group_of start.groups h) found v w
      → IsEventOver s (table_after s (slice_set s.words h (left found)) id w) (event id h) (sees v h found)
