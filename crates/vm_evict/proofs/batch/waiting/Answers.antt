use Rattle.vm_evict.proofs.Ended.{all-waiting}
use Rattle.vm_evict.proofs.batch.waiting.Goals as goal

pub returns : goal.returns
returns c = record { waits = all-waiting 64 }
