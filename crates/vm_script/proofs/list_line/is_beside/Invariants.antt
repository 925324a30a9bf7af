use Rattle.std.specs.List.{AllByRecursion}
use Rattle.std.proofs.Common.{take}
use Rattle.vm_event.specs.Groups.{ShareNoPage}
use Rattle.vm_script.proofs.list_line.is_beside.Given as goal

abbrev pub invariant-loop-other : goal.invariant-loop-other
invariant-loop-other l = AllByRecursion (λ other. ShareNoPage other l.group) (take l.other-index l.groups)
