use Rattle.vm_rule.proofs.ListFacts.{listed-none, pushed-listed}
use Rattle.vm_rule.proofs.Prelude.{ap, arith, full_bundle, min, ◌*◌, ◌-◌, ◌^◌, ◌∙◌, ◌≡◌}
use Rattle.vm_rule.proofs.started.push_bundles.Goals as goal

pub loop-g-init : goal.loop-g-init
loop-g-init c = listed-none _ _

pub loop-g-preserved : goal.loop-g-preserved
unfolding full_bundle
loop-g-preserved c =
    let left : c.min.result ≡ min 64 (c.args.frames - 64 * c.loop-g.g) = omega (arith, c.min.ensures) in
    pushed-listed _ _ _ _ _ _ c.loop-g.invariant c.in_ok-push.ensures.items (c.low_bits.ensures ∙ ap (λ n. 2 ^ n - 1) left)
