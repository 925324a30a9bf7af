use Rattle.vm_file_serve.specs.from_vm_endings.Deliveries.{content_of}
use Rattle.vm_file_serve.specs.from_vm_endings.Endings.{done}
use Rattle.vm_file_serve.proofs.from_vm_endings.Delivering.{refused}
use Rattle.vm_cli.proofs.run.perform.Goals as goal

pub returns-in-Ok-clause-ends : goal.returns-in-Ok-clause-ends
returns-in-Ok-clause-ends g c =
    done (content_of c.in-Ok.delivery) c.in-Ok.ensures.gives.0
    (rw c.deliver.ensures.apart.name c.in-Ok.ensures.gives.1)
    (rw c.in-Ok.ensures.shown at c.deliver.ensures.delivered)

pub returns-in-Err-Stopped-clause-ends : goal.returns-in-Err-Stopped-clause-ends
returns-in-Err-Stopped-clause-ends g c =
    let why = rw c.in-Err-Stopped.field-0-is at c.in-Err-Stopped.ensures.gives in
    let left = rw c.in-Err-Stopped.field-0-is at c.in-Err-Stopped.ensures.home in
    refused c.args.command _ _ _ _ _ c.in-Err-Stopped.stop _ (rw c.refuse.ensures.apart.name why.0) why.1 left.1
    (rw c.in-Err-Stopped.ensures.shown at c.refuse.ensures.delivered)
