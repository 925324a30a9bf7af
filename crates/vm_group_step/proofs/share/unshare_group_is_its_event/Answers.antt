use Rattle.vm_group_step.proofs.share.unshare_group_is_its_event.Goals as goal
use Rattle.vm_group_step.proofs.EventKinds.{unshare_group-event}

pub returns : goal.returns
returns g c = unshare_group-event g.B.Block.stored g.U.Owner.keeps g.U.Owner.tied g.B.Block.tells
