use Rattle.std.proofs.Common.{◌≡◌, append_assoc, string_bytes}
use Rattle.vm_script.specs.Texts.{migrated_line}
use Rattle.vm_script.proofs.text.migrated_text.Goals as goal

pub returns : goal.returns
returns c =
    let line : string_bytes c.in_ok-line.line ≡ migrated_line c.args.pages c.args.used c.args.height c.args.rows =
    rw c.in_ok-line.ensures.ok (simp append_assoc) in
    rw (← line, ← c.as_bytes.ensures.value) c.extend_from_slice.ensures.items
