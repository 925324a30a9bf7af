use Rattle.std.proofs.Common.{◌∙◌}
use Rattle.vm_step.specs.Prelude.{view}
use Rattle.vm_test_groups.proofs.Released.{full-leaves}
use Rattle.vm_test_groups.proofs.fresh.is_full.Goals as goal

pub returns-clause-home : goal.returns-clause-home
returns-clause-home g c =
    (full-leaves _ _ _ _ _ _ (view c.args.pass.now) (view c.fresh.new.pass) c.in-Full.ensures.answer).0
    ∙ c.requires.home

pub returns-clause-own : goal.returns-clause-own
returns-clause-own g c = (full-leaves _ _ _ _ _ _ (view c.args.pass.now) (view c.fresh.new.pass) c.in-Full.ensures.answer).1 c.requires.own
