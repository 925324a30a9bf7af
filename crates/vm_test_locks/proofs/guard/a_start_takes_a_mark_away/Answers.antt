use Rattle.std.proofs.Common.{arith}
use Rattle.vm_rule.proofs.WordFacts.{bare-state}
use Rattle.vm_test_locks.proofs.guard.a_start_takes_a_mark_away.Goals as goal

pub mark-took-requires-clause-legal : goal.mark-took-requires-clause-legal
mark-took-requires-clause-legal g c = bare-state 7 (omega arith)
