use Rattle.vm_group_step.proofs.release.release_group_is_its_event.Goals as goal
use Rattle.vm_group_step.proofs.ReleaseEvents.{release_group-event}

pub returns : goal.returns
returns g c = release_group-event g.B.Block.stored g.U.Owner.keeps g.U.Owner.tied g.B.Block.tells g.U.Owner.may_release
