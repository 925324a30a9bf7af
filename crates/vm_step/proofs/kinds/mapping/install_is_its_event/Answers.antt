use Rattle.vm_step.proofs.kinds.mapping.install_is_its_event.Goals as goal
use Rattle.vm_step.proofs.steps.Mapping.{install-event}

pub returns : goal.returns
returns g c start s id p f v w = install-event _ start _ _ _ s id p f v w
