use Rattle.vm_rule_laws.proofs.a_whole_pass_knows_the_table.Goals as goal
use Rattle.vm_rule_laws.proofs.Knowing.{table-known}

pub returns : goal.returns
returns g c start s r id v = table-known _ _ _ start _ s r id v
