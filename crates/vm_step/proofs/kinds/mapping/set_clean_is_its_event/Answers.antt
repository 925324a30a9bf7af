use Rattle.vm_step.proofs.kinds.mapping.set_clean_is_its_event.Goals as goal
use Rattle.vm_step.proofs.steps.Mapping.{set_clean-event}

pub returns : goal.returns
returns g c start s id p f v w = set_clean-event _ start _ _ _ s id p f v w
