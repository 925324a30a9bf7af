use Rattle.std.proofs.Common.{length}
use Rattle.vm_script.proofs.faults.faults_of.Given as goal
use Rattle.vm_script.proofs.Plans.{IsReadTo}

abbrev pub invariant-entries : goal.invariant-entries
invariant-entries l = IsReadTo l.word l.plan.items l.rest

abbrev pub decreases-entries : goal.decreases-entries
decreases-entries l = length l.rest
