-- What is kept by a list of events from the start.
use Rattle.std.specs.Prelude.{◌++◌, ◌≡◌, ◌≤◌, List, take, ℕ}
use Rattle.vm_event.specs.Prelude.{begin, core_start, CoreStart, FrameOnce, GroupsFit}
use Rattle.vm_event.specs.Prelude.{Inv, RunsTo, start, State, world_run}
use Rattle.vm_event.specs.{OneVersion.AllReadOne, Told.DeviceHolds, Told.FaultsTold}
use Rattle.vm_core.specs.{declared.playing.ReplayFault.ReplayFault}
use Rattle.vm_core.specs.declared.playing.ReplayFault.TheVariants as faults
use Rattle.vm_rule.specs.Prelude.{CoreShape, Event}

-- the events lead from the start to the state, meet the invariant and what it tells, and each validated read saw one
-- version
pub record KeptFrom (s : CoreStart) (events : List Event) (new : State) : Type 0 where
  pub runs : RunsTo (start s) events new
  pub core : (world_run (begin s) events).core ≡ new
  pub invariant : Inv (world_run (begin s) events)
  pub frames : FrameOnce new
  pub device : DeviceHolds (world_run (begin s) events)
  pub faults : FaultsTold new
  pub reads : AllReadOne (begin s) events

-- whatever legal events led from the start of a core to the old state, they and the ones done are kept
abbrev pub IsRunKept : State → List Event → State → Type 0
IsRunKept old done new =
    (shape : CoreShape) (groups : List (ℕ × ℕ)) (before : List Event) → shape.next ≤ shape.pages → GroupsFit shape.pages groups
    → RunsTo (start (core_start shape groups)) before old → KeptFrom (core_start shape groups) (before ++ done) new

-- the same for the events before an illegal one; want of memory did none
abbrev pub KeptFault : State → List Event → ReplayFault → State → Type 0
KeptFault old events (faults.Illegal index) new = IsRunKept old (take index events) new
KeptFault old events faults.Memory new = new ≡ old
