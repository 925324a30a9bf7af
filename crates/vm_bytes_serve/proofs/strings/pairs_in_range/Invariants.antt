use Rattle.std.specs.List.{AllByRecursion}
use Rattle.std.proofs.Common.{take}
use Rattle.vm_bytes_form.specs.Strings.{IsString}
use Rattle.vm_bytes_serve.proofs.strings.pairs_in_range.Given as goal

abbrev pub invariant-pairs : goal.invariant-pairs
invariant-pairs l = AllByRecursion (λ e. IsString 64 e.0) (take l.pair-index l.pairs)
