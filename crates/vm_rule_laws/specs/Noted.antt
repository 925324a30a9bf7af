-- What the notes of a pass say of the blocks, as a snapshot of the table shows them.
use Rattle.std.specs.Prelude.{◌≢◌, ◌≤◌, List, ℕ}
use Rattle.vm_rule.specs.from_vm_event.Prelude.{MAX_COUNT}
use Rattle.vm_rule.specs.Prelude.{times_noted}
use Rattle.vm_rule.specs.{declared.view.Note.Note, declared.view.Snapshot.Snapshot}
use Rattle.vm_rule_laws.specs.Standing.{block_in}

-- a fault that was noted is one that its page's block counted; below the last count, where counting stops, each is
-- noted once
pub record NotesStand (snapshot : Snapshot) (notes : List Note) : Type 0 where
  pub noted : (p count : ℕ) → 1 ≤ times_noted p count notes → (1 ≤ count) × (count ≤ (block_in snapshot p).count)
  pub once : (p count : ℕ) → count ≢ MAX_COUNT → times_noted p count notes ≤ 1
