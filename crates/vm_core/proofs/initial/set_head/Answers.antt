use Rattle.std.proofs.Common.{arith}
use Rattle.vm_core.proofs.initial.set_head.Goals as goal
use Rattle.vm_core.proofs.Heads.{set-more, set-none}

pub loop-p-init : goal.loop-p-init
loop-p-init c = set-none c.args.heads.now _

pub loop-p-preserved : goal.loop-p-preserved
loop-p-preserved c = set-more _ _ _ c.loop-p.p (omega arith) (omega arith) c.loop-p.invariant
