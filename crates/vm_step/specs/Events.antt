-- A step of the table is an event of the core.
use Rattle.std.specs.Prelude.{◌==◌, ◌≡◌, Bool, if◌then◌else◌, List, Option, slice_index, slice_set, true, ℕ}
use Rattle.vm_event.specs.{declared.event.Seen.Seen, Prelude.after_event, Prelude.get_elem?}
use Rattle.vm_event.specs.{Prelude.Legal, Prelude.seen, Prelude.some}
use Rattle.vm_event.specs.declared.event.Seen.TheVariants as sights
use Rattle.vm_rule.specs.{declared.view.Origin.Origin, declared.view.View.View, declared.view.WordPlace.WordPlace}
use Rattle.vm_rule.specs.Prelude.{core_shown, Event, index_of, Kept, Ruled, Start, Stored, Table, Within}

-- an exchange at a word: it leaves the new number where it found the one expected, and sees whether it did
abbrev pub exchanged : List ℕ → ℕ → ℕ → ℕ → ℕ → List ℕ
exchanged words i expects found new = slice_set words i (if found == expects then new else found)

abbrev pub exchange_sees : ℕ → ℕ → Seen
exchange_sees expects found = if found == expects then sights.Taken else sights.Lost found

module _ {X B : Type 0} where
  -- the step is on this word of the table, and finds this number there
  abbrev pub FindsAt : Origin → Table (Option B) (View X) → WordPlace → ℕ → Type 0
  FindsAt start s place found = Within start place × (found ≡ slice_index s.words (index_of start place))

  -- the table after a step of pass id, which left these words and this view
  abbrev pub table_after : Table (Option B) (View X) → List ℕ → ℕ → View X → Table (Option B) (View X)
  table_after s words id w = record { words = words; homes = s.homes; views = slice_set s.views id w }

  module _ (stored : B → Stored) (start : Origin) where
    -- the table meets the rule, and its pass id has this view
    pub record IsPassOf (keeps : Start → Kept X → Type 0) (tied : Start → ℕ → List ℕ → ℕ → List ℕ → Type 0) (tells : Bool)
        (s : Table (Option B) (View X)) (id : ℕ) (v : View X) : Type 0 where
      pub rule : Ruled stored keeps tied start tells s
      pub there : get_elem? s.views id ≡ some v
      pub live : v.live ≡ true

    -- from the core that the table shows before, the event is legal, leads to the core that the table shows later,
    -- and sees this
    pub record IsEvent (before later : Table (Option B) (View X)) (e : Event) (what : Seen) : Type 0 where
      pub legal : Legal (core_shown stored start before) e
      pub core : core_shown stored start later ≡ after_event (core_shown stored start before) e
      pub sees : seen (core_shown stored start before) e ≡ what
