use Rattle.std.proofs.Common.{◌++◌, ◌≡◌, drop}
use Rattle.vm_bytes_form.specs.KeyMap.{ranks_of}
use Rattle.vm_bytes_text.specs.KeyTexts.{key_rows_text}
use Rattle.vm_bytes_text.proofs.add_key_rows.Given as goal

abbrev pub invariant-rows : goal.invariant-rows
invariant-rows l = l.out.items ++ key_rows_text (ranks_of (drop l.row-index l.rows)) ≡ l.fn.out.items ++ key_rows_text (ranks_of l.rows)
