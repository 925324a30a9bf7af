use Rattle.vm_step.proofs.kinds.next.nload.Goals as goal
use Rattle.vm_step.proofs.steps.Next.{nload-allows}

pub load-requires-clause-allows : goal.load-requires-clause-allows
load-requires-clause-allows g c = nload-allows _ _ _ _ _ _ _ _ _ c.args.pass.now.live c.requires.pass.1 c.next_place-at.ensures.place
