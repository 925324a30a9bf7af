use Rattle.vm_step.proofs.kinds.write_back.upgrade_is_its_event.Goals as goal
use Rattle.vm_step.proofs.steps.WriteBack.{upgrade-event}

pub returns : goal.returns
returns g c = upgrade-event _ _ _ _
