use Rattle.vm_rule_laws.proofs.Knowing.{owes-nothing}
use Rattle.vm_rule_laws.proofs.nothing_is_owed.Goals as goal

pub returns : goal.returns
returns g c v = owes-nothing v
