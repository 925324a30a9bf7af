use Rattle.std.proofs.Common.{◌≡◌, append_assoc, string_bytes}
use Rattle.vm_script.specs.Texts.{counters_line}
use Rattle.vm_script.proofs.text.counters_text.Goals as goal

pub returns : goal.returns
returns c =
    let line : string_bytes c.in_ok-line.line ≡ counters_line c.args.reads c.args.writes c.args.faults
    c.args.evicted = rw c.in_ok-line.ensures.ok (simp append_assoc) in
    rw (← line, ← c.as_bytes.ensures.value) c.extend_from_slice.ensures.items
