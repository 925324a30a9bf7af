use Rattle.std.specs.List.{AllByRecursion}
use Rattle.std.proofs.Common.{arith, subst}
use Rattle.vm_bytes_laws.specs.KeyHistory.{ShowsKeys}
use Rattle.vm_bytes_laws.specs.declared.call.KeyReply.TheVariants.{Win}
use Rattle.vm_bytes_serve.specs.KeyServing.{HoldsStrings}
use Rattle.vm_bytes_serve.proofs.Taken.{taken-all, taken-more}
use Rattle.vm_bytes_serve.proofs.strings.shown_in_range.Goals as goal

pub kept-preserved : goal.kept-preserved
kept-preserved c = taken-more HoldsStrings c.args.kept.now c.kept.answers-index c.answers-item.result c.kept-test.true c.answers-item.is
    c.kept.invariant (subst (λ l. AllByRecursion (λ window. ShowsKeys (Win window)) l) c.as_slice.ensures.value c.windows_in_range.ensures)

pub returns : goal.returns
returns c = (taken-all HoldsStrings c.args.kept.now c.kept.answers-index (omega (arith, c.kept-test.false)) c.kept.invariant)
