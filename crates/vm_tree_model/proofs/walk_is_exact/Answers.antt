use Rattle.vm_tree_model.proofs.Theorem.{no_reason}
use Rattle.vm_tree_model.proofs.walk_is_exact.Goals as goal

pub returns-clause-reason : goal.returns-clause-reason
returns-clause-reason c = no_reason
