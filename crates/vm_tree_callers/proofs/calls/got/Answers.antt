use Rattle.std.proofs.Common.{◌∙◌}
use Rattle.vm_map.specs.declared.call.Call.TheVariants.{Get}
use Rattle.vm_map.specs.declared.call.Reply.{Reply}
use Rattle.vm_map.specs.declared.call.Said.{Said}
use Rattle.vm_tree_model.specs.Fixed.{fixed}
use Rattle.vm_step.specs.Prelude.{view}
use Rattle.vm_tree_callers.proofs.calls.got.Goals as goal
use Rattle.vm_tree_callers.proofs.Homes.{got-home}

pub returns-clause-home : goal.returns-clause-home
returns-clause-home g c = got-home (λ (s : Said). s) (λ (r : Reply). r) (fixed g.row.N) (Get c.args.key) c.args.key c.get.result
    (view c.args.pass.now) (view c.get.new.pass) c.get.ensures.ok c.get.ensures.err ∙ c.requires.home
