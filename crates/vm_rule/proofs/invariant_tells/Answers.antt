use Rattle.vm_rule.proofs.Tells.{told_law}
use Rattle.vm_rule.proofs.invariant_tells.Goals as goal

pub returns : goal.returns
returns c = told_law
