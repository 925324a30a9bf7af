use Rattle.std.proofs.Common.{refl}
use Rattle.vm_endings.specs.Deliveries.{content_of}
use Rattle.vm_endings.proofs.Delivering.{behind-file}
use Rattle.vm_endings.proofs.delivery.deliver.Goals as goal

pub returns-in-Ok-clause-delivered : goal.returns-in-Ok-clause-delivered
returns-in-Ok-clause-delivered g c =
    behind-file (content_of c.args.delivery.now) _ _ _ _
    (rw c.in-Some.is (rw c.as_slice.ensures.value at c.in-Ok.ensures.held))
    (rw c.as_slice-in-Ok.ensures.value at c.say.ensures.delivered)

pub returns-in-None-clause-delivered : goal.returns-in-None-clause-delivered
returns-in-None-clause-delivered g c =
    behind-file (content_of c.args.delivery.now) _ _ _ _ (rw c.in-None.is refl)
    (rw c.as_slice-in-None.ensures.value at c.say-in-None.ensures.delivered)
