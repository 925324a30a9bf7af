use Rattle.vm_churn.proofs.laws.calls_add_up.Goals as goal
use Rattle.vm_churn.proofs.Totals.{calls_total}

pub returns : goal.returns
returns c = calls_total
