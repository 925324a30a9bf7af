use Rattle.vm_rule_laws.proofs.a_whole_pass_knows_what_is_kept.Goals as goal
use Rattle.vm_rule_laws.proofs.Knowing.{what-is-kept}

pub returns : goal.returns
returns g c start s r id v = what-is-kept _ _ _ start _ s r id v
