use Rattle.vm_endings.proofs.Delivering.{said-cut, said-whole}
use Rattle.vm_endings.proofs.delivery.say.Goals as goal

pub returns-in-Ok-clause-delivered : goal.returns-in-Ok-clause-delivered
returns-in-Ok-clause-delivered g c = said-whole _ _ _ _ c.in-Ok.ensures.said

pub returns-in-Err-clause-delivered : goal.returns-in-Err-clause-delivered
returns-in-Err-clause-delivered g c = said-cut _ _ _ _ c.in-Err.ensures.some c.in-Err.ensures.front
