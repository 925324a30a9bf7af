-- The value, the key, the slot and the count are written.
use Rattle.std.proofs.Common.{◌≡◌, ℕ, ◌+◌, [], ◌∷◌, set, ap, sym, subst, ◌∙◌, arith}
use Rattle.vm_bytes_edit.specs.Drafts.{IsDraft, with_more}
use Rattle.vm_bytes_edit.proofs.DraftForms.{adds_pair, has_room}
use Rattle.vm_bytes_edit.proofs.draft.Draft.add.Goals as goal

pub returns-then-self-pair_size-clause-draft : goal.returns-then-self-pair_size-clause-draft
returns-then-self-pair_size-clause-draft c = λ n draft fits.
    let room = has_room n c.args.key.now c.args.value _ _ _ draft fits in
    let past = c.if-self-pair_size.true in
    absurd (omega (arith, room, past, c.pair_size.ensures.words))

pub returns-clause-draft : goal.returns-clause-draft
returns-clause-draft c = λ n draft fits.
    let e = c.put_block-slot.ensures in
    let slotted : c.set-2.new.self ≡ set c.put_block-slot.new.self.page (8 + c.args.self.now.count) c.put_block-slot.result =
    c.set-2.ensures.words ∙ ap (λ (k : ℕ). set c.put_block-slot.new.self.page (8 + k) c.put_block-slot.result) e.count in
    let counted : c.set-3.new.self ≡ set c.set-2.new.self 1 (c.args.self.now.count + 1) =
    c.set-3.ensures.words ∙ ap (λ (k : ℕ). set c.set-2.new.self 1 (k + 1)) e.count in
    subst (λ (k : ℕ). IsDraft c.set-3.new.self (k + 1) c.put_block-slot.new.self.end (with_more n ((c.args.key.now, c.args.value) ∷ [])))
    (sym e.count)
    (adds_pair n c.args.key.now c.args.value c.args.self.now.page c.set.new.self c.put_block-slot.new.self.page c.set-2.new.self
    c.set-3.new.self
    c.args.self.now.count c.args.self.now.end c.put_block-slot.new.self.end c.put_block-slot.result draft fits c.set.ensures.words e.end
    e.slot e.words slotted counted)
