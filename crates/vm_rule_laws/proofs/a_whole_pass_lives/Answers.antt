use Rattle.vm_rule_laws.proofs.a_whole_pass_lives.Goals as goal
use Rattle.vm_rule_laws.proofs.Alone.{whole-lives}

pub returns : goal.returns
returns g c start s r id v = whole-lives _ _ _ start _ s r id v
