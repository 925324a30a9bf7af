use Rattle.std.specs.List.{AllByRecursion}
use Rattle.std.proofs.Common.{arith, subst}
use Rattle.vm_bytes_form.specs.Strings.{IsString}
use Rattle.vm_bytes_laws.specs.KeyHistory.{key_called}
use Rattle.vm_bytes_serve.proofs.Taken.{NamesStrings}
use Rattle.vm_bytes_serve.proofs.Taken.{asked, taken-all, taken-more}
use Rattle.vm_bytes_serve.proofs.strings.asked_in_range.Goals as goal

pub lists-preserved : goal.lists-preserved
lists-preserved c = taken-more NamesStrings c.args.lists.now c.lists.calls-index c.calls-item.result c.lists-test.true c.calls-item.is
    c.lists.invariant (subst (λ l. AllByRecursion (λ call. IsString 64 (key_called call)) l) c.as_slice.ensures.value c.calls_in_range.ensures)

pub returns : goal.returns
returns c = asked c.args.lists.now (taken-all NamesStrings c.args.lists.now c.lists.calls-index (omega (arith, c.lists-test.false)) c.lists.invariant)
