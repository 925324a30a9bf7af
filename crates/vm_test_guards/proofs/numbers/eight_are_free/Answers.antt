use Rattle.vm_step.specs.Prelude.{view}
use Rattle.vm_test_guards.proofs.Rounds.{idle-then, looked-idle}
use Rattle.vm_test_guards.proofs.numbers.eight_are_free.Goals as goal

pub returns-clause-parts : goal.returns-clause-parts
returns-clause-parts g c =
    let first = looked-idle 0 c.pbload-first.result (view c.args.pass.now) (view c.pbload-first.new.pass) c.pbload-first.ensures.told in
    let second = looked-idle 1 c.pbload-second.result (view c.pbload-first.new.pass) (view c.pbload-second.new.pass)
    c.pbload-second.ensures.told in
    (idle-then _ _ _ first second).parts
