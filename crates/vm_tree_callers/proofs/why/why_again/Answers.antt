use Rattle.vm_tree_callers.proofs.Evidence.{again-other, again-seen}
use Rattle.vm_tree_callers.proofs.why.why_again.Goals as goal

pub returns-clause-seen : goal.returns-clause-seen
returns-clause-seen g c = again-seen _ _ _ c.in-Again.ensures.tried.1

pub returns-clause-other : goal.returns-clause-other
returns-clause-other g c = again-other _ _ _ c.in-Again.ensures.tried.1
