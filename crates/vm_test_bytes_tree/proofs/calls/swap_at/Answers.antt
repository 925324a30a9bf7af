use Rattle.std.proofs.Common.{◌∙◌}
use Rattle.vm_map.specs.declared.call.Call.TheVariants.{Swap}
use Rattle.vm_bytes_form.specs.{Bytes.bytes, Strings.rank}
use Rattle.vm_bytes_laws.specs.Plain.{plain_said}
use Rattle.vm_step.specs.Prelude.{view}
use Rattle.vm_tree_callers.proofs.WriteHomes.{swap-home}
use Rattle.vm_test_bytes_tree.proofs.calls.swap_at.Goals as goal

pub returns-clause-home : goal.returns-clause-home
returns-clause-home g c = swap-home plain_said bytes _ (Swap (rank c.key.result) c.args.want c.args.value) (rank c.key.result)
    c.swap.result (view c.args.pass.now) (view c.swap.new.pass) c.swap.ensures.ok c.swap.ensures.err ∙ c.requires.home
