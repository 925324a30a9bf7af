use Rattle.vm_laws_others.proofs.events_leave_others.Goals as goal
use Rattle.vm_laws_others.proofs.Laws.{leave_others}

pub returns : goal.returns
returns c = leave_others
