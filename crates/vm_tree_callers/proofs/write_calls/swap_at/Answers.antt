use Rattle.std.proofs.Common.{◌∙◌}
use Rattle.vm_map.specs.declared.call.Call.TheVariants.{Swap}
use Rattle.vm_map.specs.declared.call.Said.{Said}
use Rattle.vm_tree_model.specs.Fixed.{fixed}
use Rattle.vm_step.specs.Prelude.{view}
use Rattle.vm_tree_retry.specs.from_vm_tree_write.Writes.{HasValueIn}
use Rattle.vm_tree_callers.proofs.write_calls.swap_at.Goals as goal
use Rattle.vm_tree_callers.proofs.WriteHomes.{swap-home}

pub returns-clause-home : goal.returns-clause-home
returns-clause-home g c = swap-home (λ (s : Said). s) (fixed g.row.N)
    (λ words key. HasValueIn (fixed g.row.N) words key c.args.want) (Swap c.args.key c.args.want c.args.value)
    c.args.key c.swap.result (view c.args.pass.now) (view c.swap.new.pass) c.swap.ensures.ok c.swap.ensures.err
    ∙ c.requires.home
