-- Plans of failures: entries `P:N`, with commas between them.
use Rattle.std.specs.Fmt.{decimal}
use Rattle.std.specs.List.{AllByRecursion}
use Rattle.std.specs.Prelude.{[], ◌++◌, ◌<◌, ◌^◌, ◌∷◌, ◌≤◌, length, List, ℕ}
use Rattle.vm_image.specs.declared.blocks.PlannedFault.{PlannedFault}

-- `P:N`
abbrev pub fault_text : PlannedFault → List ℕ
fault_text fault = decimal fault.page ++ 58 ∷ decimal fault.number

-- the entries, with commas between them
abbrev pub plan_text : List PlannedFault → List ℕ
plan_text [] = []
plan_text (fault ∷ []) = fault_text fault
plan_text (fault ∷ next ∷ plan) = fault_text fault ++ 44 ∷ plan_text (next ∷ plan)

-- an entry that a word may spell: both numbers are below 2 ^ 64
pub record IsPlanned (fault : PlannedFault) : Type 0 where
  pub page : fault.page < 2 ^ 64
  pub number : fault.number < 2 ^ 64

-- a plan that a word may spell has one entry at least
pub record IsPlan (plan : List PlannedFault) : Type 0 where
  pub some : 1 ≤ length plan
  pub each : AllByRecursion IsPlanned plan
