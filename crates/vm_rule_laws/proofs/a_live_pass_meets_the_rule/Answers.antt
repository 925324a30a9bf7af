use Rattle.vm_rule_laws.proofs.a_live_pass_meets_the_rule.Goals as goal
use Rattle.vm_rule_laws.proofs.Begun.{begun-ruled}

pub returns : goal.returns
returns g c shape s = begun-ruled _ _ _ shape _ s
