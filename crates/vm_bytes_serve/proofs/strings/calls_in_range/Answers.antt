use Rattle.std.proofs.Common.{arith}
use Rattle.vm_bytes_form.specs.Strings.{IsString}
use Rattle.vm_bytes_laws.specs.KeyHistory.{key_called}
use Rattle.vm_bytes_serve.proofs.Taken.{taken-all, taken-more}
use Rattle.vm_bytes_serve.proofs.strings.calls_in_range.Goals as goal

pub calls-preserved : goal.calls-preserved
calls-preserved c = taken-more (λ call. IsString 64 (key_called call)) c.args.calls.now c.calls.call-index c.call-item.result c.calls-test.true c.call-item.is
    c.calls.invariant c.call_in_range.ensures

pub returns : goal.returns
returns c = (taken-all (λ call. IsString 64 (key_called call)) c.args.calls.now c.calls.call-index (omega (arith, c.calls-test.false)) c.calls.invariant)
