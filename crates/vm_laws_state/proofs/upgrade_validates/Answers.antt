use Rattle.vm_laws_state.proofs.upgrade_validates.Goals as goal
use Rattle.vm_laws_state.proofs.Validate.{upgrade_validates}

pub returns : goal.returns
returns c = upgrade_validates
