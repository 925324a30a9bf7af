use Rattle.vm_core.proofs.initial.own_heads.Goals as goal
use Rattle.vm_core.proofs.Heads.{own-more}

pub loop-p-preserved : goal.loop-p-preserved
loop-p-preserved c = rw c.in_ok-push.ensures.items (own-more c.loop-p.p c.loop-p.heads.items c.loop-p.invariant)
