use Rattle.vm_rule_laws.proofs.a_whole_pass_is_alone.Goals as goal
use Rattle.vm_rule_laws.proofs.Alone.{others-have-nothing}

pub returns : goal.returns
returns g c start s r id v = others-have-nothing _ _ _ start _ s r id v
