use Rattle.vm_churn.proofs.laws.values_add_up.Goals as goal
use Rattle.vm_churn.proofs.Sums.{sum_fits}

pub returns : goal.returns
returns c = sum_fits
