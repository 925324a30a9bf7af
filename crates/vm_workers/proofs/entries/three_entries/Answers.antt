use Rattle.std.proofs.Common.{◌∙◌, ap}
use Rattle.vm_step.specs.Prelude.{view}
use Rattle.vm_workers.proofs.Counting.{has-three}
use Rattle.vm_workers.proofs.entries.three_entries.Goals as goal

pub returns-in-Ok : goal.returns-in-Ok
returns-in-Ok g c =
    let start = c.in_ok-pool.ensures.view in
    let keeps = c.bring-answer.ensures.keeps in
    record {
      told = has-three _ (view c.bring-answer.new.pass) (view c.say_three.new.pass)
          (keeps.parts.0 ∙ ap (λ u. u.used) start) (keeps.mine ∙ ap (λ u. u.mine) start) c.in-Ok.ensures.said;
    }
