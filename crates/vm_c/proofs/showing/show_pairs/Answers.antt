use Rattle.std.proofs.Common.{◌∙◌, ap, set, ℕ}
use Rattle.vm_c.specs.Shows.{as_shown}
use Rattle.vm_c.proofs.Shown.{shown-more}
use Rattle.vm_c.proofs.showing.show_pairs.Goals as goal

pub loop-i-preserved : goal.loop-i-preserved
loop-i-preserved c =
    let more = shown-more c.args.from.now c.args.pairs.now c.loop-i.pairs c.loop-i.i c.index-from-i.result c.requires c.loop-i-test.true
    c.index-from-i.is c.loop-i.invariant in
    ap (λ (p : ℕ × ℕ). set c.loop-i.pairs c.loop-i.i (as_shown p)) c.pair.view_is ∙ more
