use Rattle.vm_evict.proofs.Ended.{Reports}
use Rattle.vm_evict.proofs.batch.report_of.Given as goal

-- the candidates below i are counted
abbrev pub invariant-loop-i : goal.invariant-loop-i
invariant-loop-i l = Reports l.i l.list l.fn.looks l.stages l.evicted
