use Rattle.vm_group_step.proofs.mark.mark_group_is_its_event.Goals as goal
use Rattle.vm_group_step.proofs.EventKinds.{mark_group-event}

pub returns : goal.returns
returns g c = mark_group-event g.B.Block.stored g.U.Owner.keeps g.U.Owner.tied g.B.Block.tells
