use Rattle.std.proofs.Common.{◌∙◌}
use Rattle.vm_map.specs.declared.call.Call.TheVariants.{Get}
use Rattle.vm_map.specs.declared.call.Reply.{Reply}
use Rattle.vm_bytes_form.specs.{Bytes.bytes, Strings.rank}
use Rattle.vm_bytes_laws.specs.Plain.{plain_said}
use Rattle.vm_step.specs.Prelude.{view}
use Rattle.vm_tree_callers.proofs.Homes.{got-home}
use Rattle.vm_test_bytes_tree.proofs.calls.got.Goals as goal

pub returns-clause-home : goal.returns-clause-home
returns-clause-home g c = got-home plain_said (λ (r : Reply). r) bytes (Get (rank c.key.result)) (rank c.key.result) c.get.result
    (view c.args.pass.now) (view c.get.new.pass) c.get.ensures.ok c.get.ensures.err ∙ c.requires.home
