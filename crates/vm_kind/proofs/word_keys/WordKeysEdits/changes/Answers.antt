-- Words stay where the edit leaves them.
use Rattle.std.proofs.Common.{◌∙◌}
use Rattle.vm_node.proofs.Editing.{edited-at}
use Rattle.vm_kind.proofs.word_keys.WordKeysEdits.changes.Goals as goal

pub returns : goal.returns
returns g c i lt other outside =
    edited-at g.row.N c.args.page.now c.args.edit.now i lt ∙ c.changes.ensures c.args.page.now i lt other outside
