-- The table after a move of a page's slot, and what a call of the page's device, seen when its block comes home, is
-- to the core.
use Rattle.std.specs.Prelude.{◌≡◌, List, Option, slice_set, Some, true, ℕ}
use mathlib.Core.Option as maybe
use Rattle.vm_event.specs.Prelude.{after_event, get_elem?, Legal, on_page, seen, some, State}
use Rattle.vm_event.specs.declared.event.Seen.{Seen}
use Rattle.vm_rule.specs.Prelude.{core_shown, Event, Stored, Table}
use Rattle.vm_step.specs.Prelude.{Origin, View}

-- the core with these words in the block of page p
abbrev pub with_block : State → ℕ → List ℕ → State
with_block c p words = on_page c p (record (c.pages p) { block = words })

module _ {X B : Type 0} where
  -- slot p is at home, with this block in it
  abbrev pub IsHome : Table (Option B) (View X) → ℕ → B → Type 0
  IsHome s p b = get_elem? s.homes p ≡ some (some (Some b))

  -- the table after pass id took slot p, and after it brought the slot home; its view is then w
  abbrev pub taken_from : Table (Option B) (View X) → ℕ → ℕ → View X → Table (Option B) (View X)
  taken_from s p id w = record { words = s.words; homes = slice_set s.homes p maybe.none; views = slice_set s.views id w }

  abbrev pub brought_to : Table (Option B) (View X) → ℕ → Option B → ℕ → View X → Table (Option B) (View X)
  brought_to s p x id w = record { words = s.words; homes = slice_set s.homes p (some x); views = slice_set s.views id w }

  module _ (stored : B → Stored) (start : Origin) where
    -- the table shows the same core
    abbrev pub ShowsSame : Table (Option B) (View X) → Table (Option B) (View X) → Type 0
    ShowsSame before later = core_shown stored start later ≡ core_shown stored start before

    -- the table shows this core; where blocks do not tell their words, but for the words of page p's block, which are
    -- these
    pub record ShowsBut (later : Table (Option B) (View X)) (c : State) (p : ℕ) (words : List ℕ) : Type 0 where
      pub core : core_shown stored start later ≡ with_block c p words
      pub told : start.tells ≡ true → core_shown stored start later ≡ c

    -- the event is legal, sees this, and leads to the core that the table shows later
    pub record IsCall (before later : Table (Option B) (View X)) (p : ℕ) (words : List ℕ) (e : Event) (what : Seen) : Type 0 where
      pub legal : Legal (core_shown stored start before) e
      pub shows : ShowsBut later (after_event (core_shown stored start before) e) p words
      pub sees : seen (core_shown stored start before) e ≡ what
