use Rattle.std.proofs.Common.{inl}
use Rattle.vm_endings.proofs.delivery.refuse.Goals as goal

pub returns-in-Ok-clause-delivered : goal.returns-in-Ok-clause-delivered
returns-in-Ok-clause-delivered g c = inl (rw (c.as_bytes.ensures.value, c.in-Ok.ensures, c.status_of.ensures) at c.say.ensures.delivered)
