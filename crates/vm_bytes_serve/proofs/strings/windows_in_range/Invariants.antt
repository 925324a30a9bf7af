use Rattle.std.specs.List.{AllByRecursion}
use Rattle.std.proofs.Common.{take}
use Rattle.vm_bytes_laws.specs.KeyHistory.{ShowsKeys}
use Rattle.vm_bytes_laws.specs.declared.call.KeyReply.TheVariants.{Win}
use Rattle.vm_bytes_serve.proofs.strings.windows_in_range.Given as goal

abbrev pub invariant-windows : goal.invariant-windows
invariant-windows l = AllByRecursion (λ window. ShowsKeys (Win window)) (take l.window-index l.windows)
