use Rattle.vm_rule_laws.proofs.a_whole_pass_has_the_history.Goals as goal
use Rattle.vm_rule_laws.proofs.Histories.{all-seen}

pub returns : goal.returns
returns g c start s r id v = all-seen _ _ _ start _ s r id v
