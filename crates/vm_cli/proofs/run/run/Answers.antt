use Rattle.std.proofs.Common.{Err, ap, refl}
use Rattle.vm_file_serve.specs.from_vm_endings.Endings.{command, usage}
use Rattle.vm_cli.proofs.Agreement.{agrees, complete, headline, idle_use, read_by, used_by}
use Rattle.vm_cli.proofs.run.run.Goals as goal

pub returns-in-Ok-clause-ends : goal.returns-in-Ok-clause-ends
returns-in-Ok-clause-ends g c = command _ c.in-Ok.ensures.command c.perform.ensures.ends

pub returns-in-Err-Refused-clause-ends : goal.returns-in-Err-Refused-clause-ends
returns-in-Err-Refused-clause-ends g c =
    usage (c.in-Err-Refused.ensures.refused (ap (λ e. Err e) c.in-Err-Refused.field-0-is))
    (c.in-Err-Refused.ensures.why (ap (λ e. Err e) c.in-Err-Refused.field-0-is)) refl c.say.ensures.delivered

pub returns-in-Ok-clause-headline : goal.returns-in-Ok-clause-headline
returns-in-Ok-clause-headline g c = headline _ _ _ _ _ _ _ (command _ c.in-Ok.ensures.command c.perform.ensures.ends)

pub returns-in-Ok-clause-agrees : goal.returns-in-Ok-clause-agrees
returns-in-Ok-clause-agrees g c = agrees _ _ _ _ _ _ _ (command _ c.in-Ok.ensures.command c.perform.ensures.ends)

pub returns-in-Ok-clause-complete : goal.returns-in-Ok-clause-complete
returns-in-Ok-clause-complete g c =
    complete _ _ _ _ _ _ _ _ _ _ _ (command _ c.in-Ok.ensures.command c.perform.ensures.ends)
    (λ two. read_by _ _ _ _ _ _ c.in-Ok.ensures.command (c.perform.ensures.read two)) c.perform.ensures.write

pub returns-in-Ok-clause-read : goal.returns-in-Ok-clause-read
returns-in-Ok-clause-read g c = λ two. read_by _ _ _ _ _ _ c.in-Ok.ensures.command (c.perform.ensures.read two)

pub returns-in-Ok-clause-devices : goal.returns-in-Ok-clause-devices
returns-in-Ok-clause-devices g c = used_by _ _ _ _ c.in-Ok.ensures.command c.perform.ensures.devices

pub returns-in-Err-Refused-clause-devices : goal.returns-in-Err-Refused-clause-devices
returns-in-Err-Refused-clause-devices g c = idle_use _ _ _ refl

pub returns-in-Err-Memory-clause-devices : goal.returns-in-Err-Memory-clause-devices
returns-in-Err-Memory-clause-devices g c = idle_use _ _ _ refl
