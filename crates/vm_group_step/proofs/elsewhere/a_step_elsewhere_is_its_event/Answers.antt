use Rattle.vm_group_step.proofs.elsewhere.a_step_elsewhere_is_its_event.Goals as goal
use Rattle.vm_group_step.proofs.ElsewhereEvents.{events-elsewhere, read-as-written}

pub returns-clause-event : goal.returns-clause-event
returns-clause-event g c = events-elsewhere g.B.Block.stored

pub returns-clause-read : goal.returns-clause-read
returns-clause-read g c = read-as-written
