-- What holds of a place between any two steps, and what each step tells.
use Rattle.std.specs.Prelude.{◌≡◌, ℕ, true, false, [], ◌∷◌, Option, Some, None, slice_index, length}
use mathlib.Core.Option.{some}
use lib.ListN.{get_elem?}
use Rattle.atomic_table.specs.Table.{State, Me}
use Rattle.vm_handover.specs.declared.place.Knows.{Knows}
use Rattle.vm_handover.specs.declared.place.TheConstants.{GIVEN}

-- what the first seat knows of a place that was just made
abbrev pub made : {A : Type 0} → A → Knows A
made about = record { about = about; fresh = true }

module _ {T A : Type 0} where
  -- The place is in order: it has one word. Where the word says that the value is there, the slot is at home with it, and what the datum
  -- says of it holds. A seat that knows the place as just made is the first, and the slot is at home and empty.
  pub record IsInOrder (keeps : A → T → Type 0) (about : A) (s : State (Option T) (Knows A)) : Type 0 where
    pub one : length s.words ≡ 1
    pub given : slice_index s.words 0 ≡ GIVEN → (value : T) × (get_elem? s.homes 0 ≡ some (some (Some value))) × keeps about value
    pub fresh : (id : ℕ) (v : Knows A) → get_elem? s.views id ≡ some v → v.fresh ≡ true
        → (id ≡ 0) × (get_elem? s.homes 0 ≡ some (some None))

  -- the seat has the slot, which is empty
  abbrev pub opened : Me (Option T) (Knows A) → Type 0
  opened me = (me.0.fresh ≡ false) × (me.1 ≡ (0, None) ∷ [])

  -- where the word said that the value is there, the new seat has the slot with it, and what the datum says of it holds
  abbrev pub lifted : (A → T → Type 0) → Me (Option T) (Knows A) → ℕ → Me (Option T) (Knows A) → Type 0
  lifted keeps first found after = found ≡ GIVEN → (value : T) × (after.1 ≡ (0, Some value) ∷ []) × keeps first.0.about value
