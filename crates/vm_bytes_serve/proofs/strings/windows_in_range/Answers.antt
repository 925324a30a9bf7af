use Rattle.std.proofs.Common.{arith}
use Rattle.vm_bytes_laws.specs.KeyHistory.{ShowsKeys}
use Rattle.vm_bytes_laws.specs.declared.call.KeyReply.TheVariants.{Win}
use Rattle.vm_bytes_serve.proofs.Taken.{taken-all, taken-more}
use Rattle.vm_bytes_serve.proofs.strings.windows_in_range.Goals as goal

pub windows-preserved : goal.windows-preserved
windows-preserved c = taken-more (λ window. ShowsKeys (Win window)) c.args.windows.now c.windows.window-index c.window-item.result c.windows-test.true c.window-item.is
    c.windows.invariant c.window_in_range.ensures

pub returns : goal.returns
returns c = (taken-all (λ window. ShowsKeys (Win window)) c.args.windows.now c.windows.window-index (omega (arith, c.windows-test.false)) c.windows.invariant)
