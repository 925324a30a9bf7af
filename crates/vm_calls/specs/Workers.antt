-- A worker at work, and what it has done.
use Rattle.std.specs.Prelude.{◌≡◌, ◌≤◌, Bool, List, None, Result}
use Rattle.vm_rule.specs.Prelude.{TableId}
use Rattle.vm_step.specs.Prelude.{AreHeld, Did, IsReady, TableShape, View, view}
use Rattle.vm_tree_range.specs.from_vm_exmap.Frames.{MovesFrames}
use Rattle.vm_tree_range.specs.from_vm_tree_rule.declared_fault_TreeFault.{TreeFault}
use Rattle.vm_calls.specs.{Calling.AreMade, Calling.Calling, declared.worker.Worker.Worker}

-- the worker's pass may step on this table, which has a page, has its block at home, and holds the interface's frames
pub record IsAtWork {U X A M : Type 0} {owner : _} (shape : TableShape) (tells : Bool) (t : TableId)
    (worker : Worker U A M X owner) : Type 0 where
  pub ready : IsReady shape tells t worker.pass
  pub pages : 1 ≤ shape.pages
  pub home : (view worker.pass).out ≡ None
  pub frames : AreHeld worker.iface.frames (view worker.pass)

module _ {X C R P : Type 0} (k : Calling X C R P) {A : Type 0} (keeps : A → List (Result R TreeFault) → Type 0) where
  -- the calls were made, one after another, and what was kept stands for their answers
  pub record HasCalled (calls : List C) (kept : A) (v w : View X) : Type 0 where
    pub told : List (Result R TreeFault)
    pub stands : keeps kept told
    pub each : AreMade k calls told v w

  -- so they were, and then the pass gave frames back
  pub record HasKept (calls : List C) (kept : A) (v w : View X) : Type 0 where
    pub told : List (Result R TreeFault)
    pub stands : keeps kept told
    pub made : View X
    pub each : AreMade k calls told v made
    pub back : (done : List Did) × MovesFrames done made w
