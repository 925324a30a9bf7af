-- The header comes with the separator as its low fence, then the last pairs.
use Rattle.std.proofs.Common.{◌≡◌, List, [], drop, sym, ap, subst, ◌∙◌, arith}
use Rattle.vm_node.proofs.Telling.{told_buffer}
use Rattle.vm_bytes_form.specs.Forms.{KeyEntry, IsFitting, form_of, node_in}
use Rattle.vm_bytes_edit.specs.Drafts.{entries_between, IsDraft, with_more}
use Rattle.vm_bytes_edit.specs.declared.draft.Draft.{Draft}
use Rattle.vm_bytes_edit.proofs.Splices.{clean_high, high_long, last_entries, upper_begun}
use Rattle.vm_bytes_edit.proofs.halves.upper_of.Goals.{in-Some, in_default}
use Rattle.vm_bytes_edit.proofs.halves.upper_of.Goals as goal

pub returns : goal.returns
returns c = λ all inside clean fits.
    let high = c.high_at.ensures.told in
    let high_read = told_buffer high high.through c.in_buffer.ensures.same c.in_buffer.ensures.size in
    let begun : IsDraft c.match-high_at.draft.page c.match-high_at.draft.count c.match-high_at.draft.end
    (record (node_in c.args.page.now) { low = c.args.separator.now; entries = [] }) = elim c.match-high_at.branch [
      | in-Some w ↦ subst (λ (d : Draft). IsDraft d.page d.count d.end
          (record (node_in c.args.page.now) { low = c.args.separator.now; entries = [] })) (sym w.draft-is)
          (let some = sym w.in-Some.is ∙ high_read in upper_begun c.args.page.now _ _ _ _ _ c.get.ensures.word c.get-2.ensures.word _ _ some
          (w.close.ensures.draft _ _ _ c.new-draft.ensures.draft
          (high_long (node_in c.args.page.now) _ (clean_high c.args.page.now clean) some)))
      | in_default w ↦ subst (λ (d : Draft). IsDraft d.page d.count d.end
          (record (node_in c.args.page.now) { low = c.args.separator.now; entries = [] })) (sym w.draft-is)
          (upper_begun c.args.page.now _ _ _ _ _ c.get.ensures.word c.get-2.ensures.word _ _ (sym w.in_default.is
          ∙ high_read) c.new-draft.ensures.draft)
    ] in
    let last : entries_between c.args.kept c.args.count (node_in c.args.page.now).entries
    ≡ drop c.args.kept (node_in c.args.page.now).entries = last_entries _ _ _ all in
    c.into_page.ensures ∙ (c.copy.ensures.draft _ begun (omega (arith, all)) inside
    (subst (λ (l : List KeyEntry). IsFitting 512 (with_more (record (node_in c.args.page.now) { low = c.args.separator.now; entries = [] })
    l))
    (sym last) fits)).form
    ∙ ap (λ (l : List KeyEntry). form_of 512 (with_more (record (node_in c.args.page.now) { low = c.args.separator.now; entries = [] }) l))
    last
