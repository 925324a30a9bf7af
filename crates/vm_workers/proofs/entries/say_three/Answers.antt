use Rattle.std.proofs.Common.{inr}
use Rattle.vm_step.specs.Prelude.{view}
use Rattle.vm_workers.proofs.Counting.{says-three}
use Rattle.vm_workers.proofs.entries.say_three.Goals as goal

pub validate-requires-clause-owner : goal.validate-requires-clause-owner
validate-requires-clause-owner g c = inr (λ _ _ _ _ _ _ _ _. tt)

pub validate-requires-2-clause-owner : goal.validate-requires-2-clause-owner
validate-requires-2-clause-owner g c = inr (λ _ _ _ _ _ _ _ _. tt)

pub validate-requires-3-clause-owner : goal.validate-requires-3-clause-owner
validate-requires-3-clause-owner g c = inr (λ _ _ _ _ _ _ _ _. tt)

pub returns-clause-said : goal.returns-clause-said
returns-clause-said g c =
    let began = c.in_ok-guard.ensures.ok.1 in
    let one = c.in_default.ensures.ok in
    let two = c.in_default-validate.ensures.ok in
    let three = c.in_default-validate-2.ensures.ok in
    says-three (view c.args.pass.now) (view c.start.new.pass) (view c.validate.new.pass) (view c.validate-2.new.pass)
    (view c.validate-3.new.pass) c.args.p began.quiet.steady.parts.0 one.steady.parts.0 two.steady.parts.0
    three.steady.parts.0 began.quiet.mine one.mine two.mine three.mine
