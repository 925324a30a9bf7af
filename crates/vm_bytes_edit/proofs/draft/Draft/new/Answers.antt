-- A page of zeros gets a tag, a level, and a low fence where it is not empty.
use Rattle.std.proofs.Common.{◌≡◌, ℕ, List, None, replicate, set, ap, sym, subst, ◌∙◌, arith}
use Rattle.vm_bytes_edit.specs.Drafts.{empty_node, IsDraft}
use Rattle.vm_bytes_edit.proofs.DraftForms.{begins, begins_empty}
use Rattle.vm_bytes_edit.proofs.draft.Draft.new.Goals as goal

pub returns-then-len-gt0-clause-draft : goal.returns-then-len-gt0-clause-draft
returns-then-len-gt0-clause-draft c =
    let zeros : c.set-2.new.self ≡ set (set (replicate 512 0) 0 c.args.tag) 2 c.args.level =
    c.set-2.ensures.words ∙ ap (λ (p : List ℕ). set p 2 c.args.level) (c.set.ensures.words
    ∙ ap (λ (p : List ℕ). set p 0 c.args.tag) c.zero.ensures) in
    let some = c.if-len-gt0.true in
    let e = c.put_block-slot.ensures in
    subst (λ (n : ℕ). IsDraft c.set-then-len-gt0.new.self n c.put_block-slot.new.self.end
    (empty_node c.args.tag c.args.level c.args.low.now None)) (sym e.count)
    (begins c.args.tag c.args.level c.args.low.now e.string c.set-2.new.self c.set-then-len-gt0.new.self c.put_block-slot.new.self.page
    c.put_block-slot.new.self.end c.put_block-slot.result zeros e.end e.slot e.words
    (omega (arith, some, c.len.ensures.value)) c.set-then-len-gt0.ensures.words)

pub returns-else-len-gt0-clause-draft : goal.returns-else-len-gt0-clause-draft
returns-else-len-gt0-clause-draft c =
    let zeros : c.set-2.new.self ≡ set (set (replicate 512 0) 0 c.args.tag) 2 c.args.level =
    c.set-2.ensures.words ∙ ap (λ (p : List ℕ). set p 2 c.args.level) (c.set.ensures.words
    ∙ ap (λ (p : List ℕ). set p 0 c.args.tag) c.zero.ensures) in
    let none = c.if-len-gt0.false in
    let e = c.put_block-slot.ensures in
    subst (λ (n : ℕ). IsDraft c.put_block-slot.new.self.page n c.put_block-slot.new.self.end
    (empty_node c.args.tag c.args.level c.args.low.now None)) (sym e.count)
    (begins_empty c.args.tag c.args.level c.args.low.now e.string c.set-2.new.self c.put_block-slot.new.self.page
    c.put_block-slot.new.self.page
    c.put_block-slot.new.self.end c.put_block-slot.result zeros e.end e.slot e.words (omega (arith, none, c.len.ensures.value)))
