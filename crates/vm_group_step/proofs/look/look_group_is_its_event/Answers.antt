use Rattle.vm_group_step.proofs.look.look_group_is_its_event.Goals as goal
use Rattle.vm_group_step.proofs.EventKinds.{look_group-event}

pub returns : goal.returns
returns g c = look_group-event g.B.Block.stored g.U.Owner.keeps g.U.Owner.tied g.B.Block.tells g.U.Owner.ties g.U.Owner.may_read g.U.Owner.reads
