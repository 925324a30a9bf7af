use Rattle.vm_core.proofs.Heads.{AreSetUntil}
use Rattle.vm_core.proofs.initial.set_head.Given as goal

abbrev pub invariant-loop-p : goal.invariant-loop-p
invariant-loop-p l = AreSetUntil l.heads l.fn.heads l.head l.p
