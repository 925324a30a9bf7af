use Rattle.std.specs.List.{AllByRecursion}
use Rattle.std.proofs.Common.{take}
use Rattle.vm_bytes_form.specs.Strings.{IsString}
use Rattle.vm_bytes_laws.specs.KeyHistory.{key_called}
use Rattle.vm_bytes_serve.proofs.strings.calls_in_range.Given as goal

abbrev pub invariant-calls : goal.invariant-calls
invariant-calls l = AllByRecursion (λ call. IsString 64 (key_called call)) (take l.call-index l.calls)
