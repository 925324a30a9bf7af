use Rattle.std.proofs.Common.{◌∙◌}
use Rattle.vm_map.specs.declared.call.Call.TheVariants.{Put}
use Rattle.vm_bytes_form.specs.{Bytes.bytes, Strings.rank}
use Rattle.vm_bytes_laws.specs.Plain.{plain_said}
use Rattle.vm_bytes_node.specs.Room.{spare_words}
use Rattle.vm_step.specs.Prelude.{view}
use Rattle.vm_tree_callers.proofs.WriteHomes.{put-home}
use Rattle.vm_test_bytes_tree.proofs.calls.put_at.Goals as goal

pub returns-clause-home : goal.returns-clause-home
returns-clause-home g c = put-home plain_said bytes spare_words (Put (rank c.key.result) c.args.value) (rank c.key.result)
    c.put.result (view c.args.pass.now) (view c.put.new.pass) c.put.ensures.ok c.put.ensures.err ∙ c.requires.home
