use Rattle.vm_node.proofs.Telling.{told_buffer}
use Rattle.vm_bytes_edit.proofs.edits.spare_of.Goals as goal

pub returns : goal.returns
returns c = told_buffer c.spare_at.ensures.told c.spare_at.ensures.told.through c.in_buffer.ensures.same c.in_buffer.ensures.size
