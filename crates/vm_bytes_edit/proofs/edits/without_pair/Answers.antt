-- The pairs before the place come, then those behind it.
use Rattle.std.proofs.Common.{◌+◌, [], ap, sym, subst, ◌∙◌, arith}
use Rattle.vm_bytes_form.specs.Forms.{IsFitting, form_of, node_in}
use Rattle.vm_node.proofs.Telling.{told_buffer}
use Rattle.vm_bytes_edit.proofs.Splices.{clean_high, first_fits, joined}
use Rattle.vm_bytes_edit.proofs.edits.without_pair.Goals as goal

pub returns : goal.returns
returns c = λ clean inside fits.
    let n = node_in c.args.page.now in
    let told = c.count_at.ensures.told in
    let count = told_buffer told told.through c.in_buffer.ensures.same c.in_buffer.ensures.size in
    let begun = c.begun-draft.ensures.draft (clean_high c.args.page.now clean) in
    let first = c.copy.ensures.draft _ begun (omega (arith, inside)) (omega arith)
    (first_fits n c.args.at (c.args.at + 1) _ [] count fits) in
    let whole = joined n c.args.at (c.args.at + 1) _ [] count in
    let second = c.copy-2.ensures.draft _ first (omega (arith, count)) (omega (arith, count, inside))
    (subst (IsFitting 512) (sym whole) fits) in
    c.into_page.ensures ∙ second.form ∙ ap (form_of 512) whole
