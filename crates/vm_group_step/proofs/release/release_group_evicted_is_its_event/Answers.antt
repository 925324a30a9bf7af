use Rattle.vm_group_step.proofs.release.release_group_evicted_is_its_event.Goals as goal
use Rattle.vm_group_step.proofs.ReleaseEvents.{release_group_evicted-event}

pub returns : goal.returns
returns g c = release_group_evicted-event g.B.Block.stored g.U.Owner.keeps g.U.Owner.tied g.B.Block.tells
