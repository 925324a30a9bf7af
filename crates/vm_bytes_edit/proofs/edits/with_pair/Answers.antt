-- First come the pairs before the place, then the new one, then those behind.
use Rattle.std.proofs.Common.{[], ◌∷◌, List, ap, ◌∙◌, arith}
use Rattle.vm_bytes_form.specs.Forms.{KeyEntry, form_of, node_in}
use Rattle.vm_node.proofs.Telling.{told_buffer}
use Rattle.vm_bytes_edit.proofs.Splices.{between_fits, clean_high, first_fits, spliced_is, whole_fits}
use Rattle.vm_bytes_edit.proofs.edits.with_pair.Goals as goal

pub returns : goal.returns
returns c = λ clean inside fits.
    let n = node_in c.args.page.now in
    let told = c.count_at.ensures.told in
    let count = told_buffer told told.through c.in_buffer.ensures.same c.in_buffer.ensures.size in
    let new : List KeyEntry = (c.args.key.now, c.args.value) ∷ [] in
    let order = c.requires.order in
    let begun = c.begun-draft.ensures.draft (clean_high c.args.page.now clean) in
    let first = c.copy.ensures.draft _ begun (omega (arith, inside, order)) (omega arith)
    (first_fits n c.args.before c.args.behind _ new count fits) in
    let second = c.add.ensures.draft _ first (between_fits n c.args.before c.args.behind _ new count fits) in
    let third = c.copy-2.ensures.draft _ second (omega (arith, count)) (omega (arith, count, inside))
    (whole_fits n c.args.before c.args.behind _ new count fits) in
    c.into_page.ensures ∙ third.form ∙ ap (form_of 512) (spliced_is n c.args.before c.args.behind _ new count)
