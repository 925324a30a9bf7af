use Rattle.vm_bytes_form.specs.Forms.{node_in}
use Rattle.vm_bytes_node.proofs.HeaderLemmas.{tag_is}
use Rattle.vm_bytes_file.proofs.KeyNodeTests.{tag_test}
use Rattle.vm_bytes_file.proofs.nodes.KeyNodesNodes512.has_tag.Goals as goal

pub returns : goal.returns
returns c = rw c.get.ensures.word (rw (← tag_is c.args.page.now) (tag_test (node_in c.args.page.now).tag c.tag_at.result c.args.level c.tag_at.ensures))
