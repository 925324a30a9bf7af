use Rattle.std.proofs.Common.{refl}
use Rattle.vm_script.specs.Orders.{most_bytes}
use Rattle.vm_endings.specs.from_vm_drive.Drives.{items_of}
use Rattle.vm_endings.specs.Scripts.{IsBadScriptIn, IsScriptIn}
use Rattle.vm_reading.proofs.Files.{long_file, short_file}
use Rattle.vm_reading.proofs.ScriptCalls.{few_script}
use Rattle.vm_reading.proofs.scripts.calls_in.Goals as goal

pub returns-in-Ok-read_lists-clause-reads : goal.returns-in-Ok-read_lists-clause-reads
returns-in-Ok-read_lists-clause-reads g c = λ outside left.
    let k = rw c.as_slice.ensures.value at c.in-Ok-read_lists.ensures.reading in
    short_file _ _ _ most_bytes
    (IsScriptIn g.K.CallSyntax.grammar c.args.workers (items_of c.in-Ok-read_lists.lists.items))
    c.in-Ok.ensures.whole k.0 (record { short = k.0; reads = k.1 })

pub returns-in-Ok-read_lists-clause-few : goal.returns-in-Ok-read_lists-clause-few
returns-in-Ok-read_lists-clause-few g c =
    few_script g.K.CallSyntax.grammar _ _ _ c.in-Ok-read_lists.ensures.reading.1

pub returns-in-Err-Long-clause-reads : goal.returns-in-Err-Long-clause-reads
returns-in-Err-Long-clause-reads g c = λ outside left.
    let k = rw c.in-Err-Long.field-0-is at c.in-Err-Long.ensures.reading in
    (refl, long_file _ _ _ _ c.in-Ok.ensures.whole (rw c.as_slice.ensures.value at k))

pub returns-in-Err-Line-clause-reads : goal.returns-in-Err-Line-clause-reads
returns-in-Err-Line-clause-reads g c = λ outside left.
    let k = rw c.in-Err-Line.field-0-is at c.in-Err-Line.ensures.reading in
    let h = rw c.as_slice.ensures.value at k in (
      refl,
      short_file _ _ _ most_bytes (IsBadScriptIn g.K.CallSyntax.grammar c.args.workers c.in-Err-Line.line)
          c.in-Ok.ensures.whole h.0 (record { short = h.0; first = h.1 }),
    )
