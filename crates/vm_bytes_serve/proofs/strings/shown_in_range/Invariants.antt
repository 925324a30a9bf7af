use Rattle.std.specs.List.{AllByRecursion}
use Rattle.std.proofs.Common.{take}
use Rattle.vm_bytes_serve.specs.KeyServing.{HoldsStrings}
use Rattle.vm_bytes_serve.proofs.strings.shown_in_range.Given as goal

abbrev pub invariant-kept : goal.invariant-kept
invariant-kept l = AllByRecursion HoldsStrings (take l.answers-index l.kept)
