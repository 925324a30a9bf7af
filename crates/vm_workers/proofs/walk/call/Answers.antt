use Rattle.vm_workers.proofs.Staying.{look-found, look-stays}
use Rattle.vm_workers.proofs.walk.call.Goals as goal

pub returns-clause-stays : goal.returns-clause-stays
returns-clause-stays g c = look-stays _ _ _ _ _ c.look_silently.ensures.told

pub returns-clause-found : goal.returns-clause-found
returns-clause-found g c = look-found _ _ _ _ _ _ c.look_silently.ensures.told
