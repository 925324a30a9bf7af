use Rattle.std.proofs.Common.{◌∙◌}
use Rattle.vm_map.specs.declared.call.Said.{Said}
use Rattle.vm_tree_model.specs.Fixed.{fixed}
use Rattle.vm_kind.specs.WordRoom.{spare_in}
use Rattle.vm_step.specs.Prelude.{view}
use Rattle.vm_tree_callers.proofs.{Homes.rests-held, WriteHomes.put-rests}
use Rattle.vm_tree_callers.proofs.write_calls.put_once.Goals as goal

pub returns-clause-home : goal.returns-clause-home
returns-clause-home g c =
    (put-rests (λ (s : Said). s) (fixed g.row.N) (spare_in g.row.N) c.args.key c.args.value c.try_put.result
    (view c.args.pass.now) (view c.try_put.new.pass) c.try_put.ensures.tried).out ∙ c.requires.home

pub returns-clause-held : goal.returns-clause-held
returns-clause-held g c = rests-held _ (view c.args.pass.now) (view c.try_put.new.pass) c.requires.held
    (put-rests (λ (s : Said). s) (fixed g.row.N) (spare_in g.row.N) c.args.key c.args.value c.try_put.result
    (view c.args.pass.now) (view c.try_put.new.pass) c.try_put.ensures.tried)
