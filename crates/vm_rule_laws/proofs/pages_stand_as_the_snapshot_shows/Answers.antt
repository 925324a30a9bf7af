use Rattle.vm_rule_laws.proofs.pages_stand_as_the_snapshot_shows.Goals as goal
use Rattle.vm_rule_laws.proofs.Standing.{stands-known}

pub returns : goal.returns
returns g c start s r id v = stands-known _ _ _ start _ s r id v
