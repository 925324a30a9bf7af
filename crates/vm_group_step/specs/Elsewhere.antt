-- A step on another word than a state word is the same event of the machine with groups: it is on a page's own word.
use Rattle.std.specs.Prelude.{◌≡◌, Bool, false, List, Option, slice_set, true, ℕ}
use Rattle.vm_event.specs.{declared.event.Seen.Seen, Groups.GroupsFit, Groups.IsUngrouped}
use Rattle.vm_event.specs.declared.event.Event.TheVariants.{Downgrade, LockS, LockW, LockX, Look, Mark, OLoad, Release}
use Rattle.vm_event.specs.declared.event.Event.TheVariants.{ReleaseE, UnlockS, Unmark, Upgrade}
use Rattle.vm_event.specs.declared.event.Seen.TheVariants.{Word}
use Rattle.vm_rule.specs.{declared.view.Origin.Origin, declared.view.View.View, declared.view.WordPlace.WordPlace}
use Rattle.vm_rule.specs.{Layout.at_state, Layout.index_of, Prelude.Event, Prelude.Stored, Prelude.Table}
use Rattle.vm_rule.specs.{Spread.spread_table}
use Rattle.vm_step.specs.Prelude.{IsEvent, table_after}
use Rattle.vm_group_step.specs.Events.{IsEventOver, owner_over}

-- the event is on a page's state word
abbrev pub is_on_state : Event → Bool
is_on_state (Look a p) = true
is_on_state (LockX a p expects) = true
is_on_state (LockS a p expects) = true
is_on_state (UnlockS a p) = true
is_on_state (Mark a p expects) = true
is_on_state (Unmark a p expects) = true
is_on_state (LockW a p expects) = true
is_on_state (Upgrade a p expects) = true
is_on_state (Release a p) = true
is_on_state (ReleaseE a p) = true
is_on_state (Downgrade a p) = true
is_on_state e = false

-- what the machine with groups sees where the table shows this: of an owner word the first page of the group
abbrev pub seen_over : List (ℕ × ℕ) → Event → Seen → Seen
seen_over groups (OLoad a f) (Word n) = Word (owner_over groups n)
seen_over groups e what = what

module _ {X B : Type 0} where
  -- a step on a word that is no group's leaves the table that its pages read as the same step on that table does
  abbrev pub IsReadAsWritten : Origin → Table (Option B) (View X) → Type 0
  IsReadAsWritten start s =
      (place : WordPlace) (x id : ℕ) (w : View X) → GroupsFit start.pages start.groups
      → at_state place (λ p. IsUngrouped start.groups p)
      → spread_table start (table_after s (slice_set s.words (index_of start place) x) id w)
      ≡ table_after (spread_table start s) (slice_set (spread_table start s).words (index_of start place) x) id w

  -- every such event from a table to another, as their pages read them, is the same of the machine with groups
  abbrev pub IsEventElsewhere : (B → Stored) → Origin → Table (Option B) (View X) → Table (Option B) (View X) → Type 0
  IsEventElsewhere stored start before later =
      (e : Event) (what : Seen) → is_on_state e ≡ false
      → IsEvent stored start (spread_table start before) (spread_table start later) e what
      → IsEventOver stored start before later e (seen_over start.groups e what)
