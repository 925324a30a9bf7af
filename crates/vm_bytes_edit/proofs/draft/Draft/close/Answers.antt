-- A high fence comes below the low one.
use Rattle.std.proofs.Common.{ℕ, Some, sym, subst}
use Rattle.vm_bytes_edit.specs.Drafts.{empty_node, IsDraft}
use Rattle.vm_bytes_edit.proofs.DraftForms.{closes}
use Rattle.vm_bytes_edit.proofs.draft.Draft.close.Goals as goal

pub returns-clause-draft : goal.returns-clause-draft
returns-clause-draft c = λ tag level low draft some.
    let e = c.put_block-slot.ensures in
    subst (λ (n : ℕ). IsDraft c.set.new.self n c.put_block-slot.new.self.end (empty_node tag level low (Some c.args.high.now)))
    (sym e.count)
    (closes tag level low c.args.high.now c.args.self.now.page c.put_block-slot.new.self.page c.set.new.self c.args.self.now.count
    c.args.self.now.end
    c.put_block-slot.new.self.end c.put_block-slot.result draft e.string some e.end e.slot e.words c.set.ensures.words)
