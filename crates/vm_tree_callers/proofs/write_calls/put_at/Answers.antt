use Rattle.std.proofs.Common.{◌∙◌}
use Rattle.vm_map.specs.declared.call.Call.TheVariants.{Put}
use Rattle.vm_map.specs.declared.call.Said.{Said}
use Rattle.vm_tree_model.specs.Fixed.{fixed}
use Rattle.vm_kind.specs.WordRoom.{spare_in}
use Rattle.vm_step.specs.Prelude.{view}
use Rattle.vm_tree_callers.proofs.write_calls.put_at.Goals as goal
use Rattle.vm_tree_callers.proofs.WriteHomes.{put-home}

pub returns-clause-home : goal.returns-clause-home
returns-clause-home g c = put-home (λ (s : Said). s) (fixed g.row.N) (spare_in g.row.N) (Put c.args.key c.args.value)
    c.args.key c.put.result (view c.args.pass.now) (view c.put.new.pass) c.put.ensures.ok c.put.ensures.err
    ∙ c.requires.home
