use Rattle.std.specs.declared.alloc.Global.{Global}
use Rattle.std.proofs.Common.{inr, Vec}
use Rattle.vm_map.specs.declared.call.Call.{Call}
use Rattle.vm_reading.specs.from_vm_drive.Drives.{items_of}
use Rattle.vm_reading.specs.from_vm_endings.Outside.{with_shown, with_unread}
use Rattle.vm_file_serve.proofs.Answering.{calls-why}
use Rattle.vm_file_serve.proofs.Words.{read_same}
use Rattle.vm_file_serve.proofs.serve.make_ready.Goals as goal

pub returns-in-Ok-read_calls-clause-gives : goal.returns-in-Ok-read_calls-clause-gives
returns-in-Ok-read_calls-clause-gives g c = λ outside left. (
  c.in-Ok.ensures.2,
  c.in-Ok.ensures.0,
  c.in-Ok.ensures.1,
  c.in-Ok-read_calls.ensures.reads outside left,
  c.in-Ok-read_calls.ensures.few,
  c.in-Ok-read_calls.ensures.askable,
  c.in-Ok-read_calls.ensures.workers,
)

pub returns-in-Err-read_calls-clause-gives : goal.returns-in-Err-read_calls-clause-gives
returns-in-Err-read_calls-clause-gives g c = λ outside left. (
  read_same _ _ _ c.in-Ok.ensures.2,
  inr (
    c.in-Ok.image,
    c.in-Ok.ensures.0,
    c.in-Ok.ensures.1,
    calls-why (λ (v : Vec (Vec Call Global) Global). items_of v.items) (with_shown outside _) (with_unread left _) _ _
        c.in-Err-read_calls.undone (c.in-Err-read_calls.ensures.reads outside left),
  ),
)
