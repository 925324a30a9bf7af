-- The moves of a page's slot: what each load of the fault word tells the call that makes it, as the table asks for
-- it: of the step, the seat before,
-- the number found, the seat after.
use Rattle.std.specs.Prelude.{[], ◌∷◌, ◌≡◌, Bool, false, None, Option, Some, true, ℕ}
use Rattle.vm_rule.specs.Prelude.{DeviceDid, may_call, Me, out_at, ReturnTold}
use Rattle.vm_rule.specs.Prelude.{seat_of, ShiftTold, SlotTold, Step, Stored}
use Rattle.vm_rule.specs.{declared.view.TableShape.TableShape, declared.view.View.View}
use Rattle.vm_step.specs.Operations.{IsOf}

module _ {X : Type 0} where
  -- the pass may call the device of p, and has no block out
  pub record MayTakeOut (v : View X) (p : ℕ) : Type 0 where
    pub calls : may_call (seat_of v p) ≡ true
    pub none : v.out ≡ None

  module _ {B : Type 0} (shape : TableShape) (tells : Bool) where
    -- the slot of page p was taken, with the block in it
    abbrev pub slot_play : (B → Stored) → ℕ → Step (Option B) → Me (Option B) (View X) → ℕ → Me (Option B) (View X)
        → Type 0
    slot_play stored p st m found m' = IsOf shape tells m.0 × ((b : B) × SlotTold p (stored b) found m.0 m'.0 × (m'.1 ≡ (p, Some b) ∷ m.1))

    -- the slot went home with the block that came back
    abbrev pub return_play : (B → Stored) → ℕ → Step (Option B) → Me (Option B) (View X) → ℕ → Me (Option B) (View X)
        → Type 0
    return_play stored p st m found m' = (b : B) (old : Stored) → m.1 ≡ (p, Some b) ∷ [] → m.0.out ≡ Some (out_at p true old) →
        DeviceDid m.0 p old (stored b) → (stored b).bound ≡ old.bound → IsOf shape tells m.0 × ReturnTold p (stored b)
        found m.0 m'.0 × (m'.1 ≡ [])

  module _ {S : Type 0} (shape : TableShape) (tells : Bool) where
    -- the empty slot of a block that is out went home
    abbrev pub empty_play : ℕ → Step (Option S) → Me (Option S) (View X) → ℕ → Me (Option S) (View X) → Type 0
    empty_play p st m found m' = (b : Stored) → m.0.out ≡ Some (out_at p true b) → ShiftTold p false b found m.0 m'.0 × (m'.1 ≡ [])

    -- it was taken; what was done to the block is so of the view afterwards
    abbrev pub lift_play : ℕ → Step (Option S) → Me (Option S) (View X) → ℕ → Me (Option S) (View X) → Type 0
    lift_play p st m found m' =
        IsOf shape tells m.0
        × ((b : Stored) → m.0.out ≡ Some (out_at p false b) → ShiftTold p true b found m.0 m'.0 × (m'.1 ≡ (p, None) ∷ m.1)
        × ((new : Stored) → DeviceDid m.0 p b new → DeviceDid m'.0 p b new))
