use Rattle.vm_step.proofs.kinds.next.claim.Goals as goal
use Rattle.vm_step.proofs.steps.Next.{claim-allows}

pub compare_exchange-requires-clause-allows : goal.compare_exchange-requires-clause-allows
compare_exchange-requires-clause-allows g c = claim-allows _ _ _ _ g.U.Owner.claims _ _ _ _ _ c.args.x c.args.n
    c.args.pass.now.live c.requires.pass.1 c.requires.legal c.next_place-at.ensures.place
