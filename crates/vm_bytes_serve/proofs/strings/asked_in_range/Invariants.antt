use Rattle.std.specs.List.{AllByRecursion}
use Rattle.std.proofs.Common.{take}
use Rattle.vm_bytes_serve.proofs.Taken.{NamesStrings}
use Rattle.vm_bytes_serve.proofs.strings.asked_in_range.Given as goal

abbrev pub invariant-lists : goal.invariant-lists
invariant-lists l = AllByRecursion NamesStrings (take l.calls-index l.lists)
