use Rattle.vm_rule_laws.proofs.Noted.{notes-stand}
use Rattle.vm_rule_laws.proofs.notes_stand_as_the_snapshot_shows.Goals as goal

pub returns : goal.returns
returns g c start s r id v = notes-stand _ _ _ start _ s r id v
