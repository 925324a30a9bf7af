use Rattle.std.proofs.Common.{ap, ◌∙◌}
use Rattle.vm_bytes_form.specs.Strings.{rank}
use Rattle.vm_bytes_file.proofs.KeyNodeTests.{lowest}
use Rattle.vm_bytes_file.proofs.nodes.KeyNodesNodes512.lowest.Goals as goal

pub returns : goal.returns
returns c = ap rank c.new.ensures ∙ lowest
