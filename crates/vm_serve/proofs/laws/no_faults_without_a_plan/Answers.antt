use Rattle.vm_serve.specs.Serving.{word_serving}
use Rattle.vm_serve.proofs.laws.no_faults_without_a_plan.Goals as goal
use Rattle.vm_serve.proofs.Unplanned.{all_flushed, no_faults}

pub returns-clause-faults : goal.returns-clause-faults
returns-clause-faults c n = no_faults (word_serving n)

pub returns-clause-flush : goal.returns-clause-flush
returns-clause-flush c n pages lists replies report blocks end is = is.on.flushed (all_flushed (word_serving n) pages lists replies report blocks end is)
