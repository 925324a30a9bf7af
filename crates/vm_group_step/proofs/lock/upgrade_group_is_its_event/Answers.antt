use Rattle.vm_group_step.proofs.lock.upgrade_group_is_its_event.Goals as goal
use Rattle.vm_group_step.proofs.EventKinds.{upgrade_group-event}

pub returns : goal.returns
returns g c = upgrade_group-event g.B.Block.stored g.U.Owner.keeps g.U.Owner.tied g.B.Block.tells g.U.Owner.ties
