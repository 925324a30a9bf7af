-- What was told of the page in the buffer holds of the page.
use Rattle.vm_node.proofs.Telling.{told_buffer}
use Rattle.vm_node.proofs.leaf.find.Goals as goal

pub returns : goal.returns
returns g c = told_buffer c.find_at.ensures.told c.find_at.ensures.told.through c.in_buffer-place.ensures.same
    c.in_buffer-place.ensures.size
