-- So far the first words are written.
use Rattle.std.proofs.Common.{◌≡◌, ◌≤◌, take}
use Rattle.vm_bytes_form.specs.Forms.{key_block}
use Rattle.vm_bytes_edit.specs.Drafts.{over}
use Rattle.vm_bytes_edit.proofs.draft.write_key.Given as goal

abbrev pub invariant-loop-i : goal.invariant-loop-i
invariant-loop-i l = (l.i ≤ l.i-end) × (l.page ≡ over l.fn.page l.at (take l.i (key_block l.key)))
