use Rattle.vm_step.proofs.kinds.mapping.set_dirty_is_its_event.Goals as goal
use Rattle.vm_step.proofs.steps.Mapping.{set_dirty-event}

pub returns : goal.returns
returns g c start s id p f v w = set_dirty-event _ start _ _ _ s id p f v w
