use Rattle.vm_step.proofs.kinds.next.claim_is_its_event.Goals as goal
use Rattle.vm_step.proofs.steps.Next.{claim-event}

pub returns : goal.returns
returns g c = claim-event _ _ _ _
