use Rattle.std.proofs.Common.{◌∙◌}
use Rattle.vm_map.specs.declared.call.Call.TheVariants.{Window as ForWindow}
use Rattle.vm_map.specs.declared.call.Reply.{Reply}
use Rattle.vm_map.specs.declared.call.Said.{Said}
use Rattle.vm_tree_model.specs.Fixed.{fixed}
use Rattle.vm_step.specs.Prelude.{view}
use Rattle.vm_tree_callers.proofs.calls.window_from.Goals as goal
use Rattle.vm_tree_callers.proofs.Homes.{got-home}

pub returns-clause-home : goal.returns-clause-home
returns-clause-home g c = got-home (λ (s : Said). s) (λ (r : Reply). r) (fixed g.row.N) (ForWindow c.args.start c.args.most) c.args.start
    c.window.result (view c.args.pass.now) (view c.window.new.pass) c.window.ensures.ok c.window.ensures.err
    ∙ c.requires.home
