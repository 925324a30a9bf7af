use Rattle.vm_build.proofs.Counting.{IsCounted}
use Rattle.vm_build.proofs.building.needed.Given as goal

abbrev pub invariant-loop-nodes : goal.invariant-loop-nodes
invariant-loop-nodes l = IsCounted l.words l.pairs l.nodes l.pages

abbrev pub decreases-loop-nodes : goal.decreases-loop-nodes
decreases-loop-nodes l = l.nodes
