use Rattle.std.specs.declared.alloc.Global.{Global}
use Rattle.std.proofs.Common.{Vec}
use Rattle.vm_map.specs.declared.call.Call.{Call}
use Rattle.vm_script.specs.Scripts.{word_grammar}
use Rattle.vm_endings.specs.from_vm_drive.Drives.{AreAskable, items_of}
use Rattle.vm_endings.specs.Outside.{nothing_left, nowhere, with_shown, with_unread}
use Rattle.vm_reading.proofs.ScriptCalls.{askable_script, read_script}
use Rattle.vm_reading.proofs.scripts.read_calls.Goals as goal

pub returns-clause-askable : goal.returns-clause-askable
returns-clause-askable g c =
    read_script word_grammar (λ (v : Vec (Vec Call Global) Global). items_of v.items) AreAskable askable_script
    (with_shown nowhere _) (with_unread nothing_left _) c.args.name.now c.args.workers c.calls_in.result
    (c.calls_in.ensures.reads nowhere nothing_left)
