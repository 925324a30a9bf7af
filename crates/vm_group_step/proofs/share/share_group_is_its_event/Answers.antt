use Rattle.vm_group_step.proofs.share.share_group_is_its_event.Goals as goal
use Rattle.vm_group_step.proofs.EventKinds.{share_group-event}

pub returns : goal.returns
returns g c = share_group-event g.B.Block.stored g.U.Owner.keeps g.U.Owner.tied g.B.Block.tells g.U.Owner.ties g.U.Owner.may_hold g.U.Owner.holds
