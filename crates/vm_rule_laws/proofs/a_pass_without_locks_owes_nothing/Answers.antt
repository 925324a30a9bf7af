use Rattle.vm_rule_laws.proofs.a_pass_without_locks_owes_nothing.Goals as goal
use Rattle.vm_rule_laws.proofs.Alone.{without-locks}

pub returns : goal.returns
returns g c start s r id v = without-locks _ _ _ start _ s r id v
