use Rattle.vm_rule_laws.proofs.Lists.{lists-one}
use Rattle.vm_rule_laws.proofs.lists_are_one.Goals as goal

pub returns : goal.returns
returns g c start s r other = lists-one _ _ _ start _ s r other
