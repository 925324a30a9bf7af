use Rattle.vm_rule.proofs.Beginning.{begin-allows-as}
use Rattle.vm_rule.proofs.opening.first_step.Goals as goal

pub load-requires : goal.load-requires
load-requires g c = (c.requires.table.0, c.requires.table.1, begin-allows-as _ _ _ _ _ _ _ _ c.requires.seat c.requires.table.2)
