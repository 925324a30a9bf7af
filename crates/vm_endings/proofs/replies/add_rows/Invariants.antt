use Rattle.std.proofs.Common.{◌++◌, ◌≡◌, drop}
use Rattle.vm_script.specs.Texts.{rows_text}
use Rattle.vm_endings.proofs.replies.add_rows.Given as goal

abbrev pub invariant-rows : goal.invariant-rows
invariant-rows l = l.out.items ++ rows_text (drop l.row-index l.rows) ≡ l.fn.out.items ++ rows_text l.rows
