use Rattle.std.proofs.Common.{arith, subst}
use Rattle.vm_bytes_form.specs.{Forms.KeyEntry, Strings.IsString}
use Rattle.vm_bytes_serve.proofs.Taken.{are-keys, taken-all, taken-more}
use Rattle.vm_bytes_serve.proofs.strings.pairs_in_range.Goals as goal

pub pairs-preserved : goal.pairs-preserved
pairs-preserved c = taken-more (λ e. IsString 64 e.0) c.args.pairs.now c.pairs.pair-index c.pair-item.result c.pairs-test.true c.pair-item.is
    c.pairs.invariant (subst (λ (e : KeyEntry). IsString 64 e.0) c.pair.view_is c.in_range.ensures.string)

pub returns : goal.returns
returns c = are-keys c.args.pairs.now (taken-all (λ e. IsString 64 e.0) c.args.pairs.now c.pairs.pair-index (omega (arith, c.pairs-test.false)) c.pairs.invariant)
