use Rattle.vm_churn.proofs.laws.answers_tell_the_history.Goals as goal
use Rattle.vm_churn.proofs.Tallying.{tallied}

pub returns : goal.returns
returns c m h lists replies legal holds = tallied m h lists replies legal.replies holds
