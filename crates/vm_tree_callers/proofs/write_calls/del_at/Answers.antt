use Rattle.std.proofs.Common.{◌∙◌}
use Rattle.vm_map.specs.declared.call.Said.{Said}
use Rattle.vm_tree_model.specs.Fixed.{fixed}
use Rattle.vm_step.specs.Prelude.{view}
use Rattle.vm_tree_callers.proofs.write_calls.del_at.Goals as goal
use Rattle.vm_tree_callers.proofs.WriteHomes.{del-home}

pub returns-clause-home : goal.returns-clause-home
returns-clause-home g c = del-home (λ (s : Said). s) (fixed g.row.N) c.args.key c.del.result (view c.args.pass.now)
    (view c.del.new.pass) c.del.ensures.ok c.del.ensures.err ∙ c.requires.home
