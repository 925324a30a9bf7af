-- Each word is that of the edit.
use Rattle.std.proofs.Common.{◌∙◌, sym}
use Rattle.vm_node.proofs.Editing.{edited-at}
use Rattle.vm_kind.proofs.word_keys.WordKeysEdits.edited_word.Goals as goal

pub returns-clause-word : goal.returns-clause-word
returns-clause-word g c = c.word.ensures ∙ sym (edited-at g.row.N c.args.page.now c.args.edit.now c.args.i c.requires)
