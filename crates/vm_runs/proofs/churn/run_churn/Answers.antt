use Rattle.std.proofs.Common.{refl}
use Rattle.vm_reading.specs.from_vm_endings.declared_ends_Ends_TheVariants.{LargeTree, Tree}
use Rattle.vm_runs.proofs.churn.run_churn.Goals as goal
use Rattle.vm_runs.proofs.Churning.{churn-does, churn-gives}

pub returns-in-Err-clause-gives : goal.returns-in-Err-clause-gives
returns-in-Err-clause-gives g c = λ outside left. (c.in-Err.ensures outside left, refl)

pub returns-in-Ok-churned-clause-gives : goal.returns-in-Ok-churned-clause-gives
returns-in-Ok-churned-clause-gives g c =
    let o = c.in-Ok-churned.field-0 in
    let does = churn-does 512 c.args.churn.now c.in-Ok.load o.delivery o.ended c.in-Ok.ensures c.in-Ok-churned.ensures.0 in
    λ outside left. churn-gives c.args.churn.now c.in-Ok.load o.delivery (LargeTree o.ended) c.in-Ok.ensures does
    c.in-Ok-churned.ensures.1 outside left c.args.ends.now

pub returns-in-Ok-churned-2-clause-gives : goal.returns-in-Ok-churned-2-clause-gives
returns-in-Ok-churned-2-clause-gives g c =
    let o = c.in-Ok-churned-2.field-0 in
    let does = churn-does 64 c.args.churn.now c.in-Ok.load o.delivery o.ended c.in-Ok.ensures c.in-Ok-churned-2.ensures.0 in
    λ outside left. churn-gives c.args.churn.now c.in-Ok.load o.delivery (Tree o.ended) c.in-Ok.ensures does
    c.in-Ok-churned-2.ensures.1 outside left c.args.ends.now
