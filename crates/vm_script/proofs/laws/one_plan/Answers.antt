use Rattle.vm_script.proofs.laws.one_plan.Goals as goal
use Rattle.vm_script.proofs.Plans.{one_plan}

pub returns : goal.returns
returns c = one_plan
