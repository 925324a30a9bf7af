use Rattle.std.proofs.Common.{◌*◌, ◌-◌, ◌^◌, ◌∙◌, ◌≡◌, ap, arith, min, sym}
use Rattle.std.proofs.lemmas.Nat.{one_shl}
use Rattle.vm_event.specs.Prelude.{full_bundle}
use Rattle.vm_core.proofs.initial.full_bundle.Goals as goal

pub returns-then-left : goal.returns-then-left
unfolding full_bundle
returns-then-left c =
    let e : min 64 (c.args.frames - 64 * c.args.g) ≡ 64 = omega (arith, c.if-left.true) in
    sym (ap (λ k. 2 ^ k - 1) e)

pub returns-else-left : goal.returns-else-left
unfolding full_bundle
returns-else-left c =
    let e : min 64 (c.args.frames - 64 * c.args.g) ≡ c.args.frames - c.args.g * 64 = omega (arith, c.if-left.false) in
    ap (λ v. v - 1) (one_shl (c.args.frames - c.args.g * 64) 64 (omega (arith, c.if-left.false))) ∙ sym (ap (λ k. 2 ^ k - 1) e)
