use Rattle.vm_step.proofs.kinds.next.nload_is_its_event.Goals as goal
use Rattle.vm_step.proofs.steps.Next.{nload-event}

pub returns : goal.returns
returns g c = nload-event _ _ _ _
