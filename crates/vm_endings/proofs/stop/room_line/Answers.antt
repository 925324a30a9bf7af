use Rattle.std.proofs.Common.{◌∙◌, append_assoc}
use Rattle.vm_endings.proofs.stop.room_line.Goals as goal

pub returns : goal.returns
returns c = c.in_ok-line.ensures.ok ∙ simp append_assoc
