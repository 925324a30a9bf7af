-- A draft with all pairs of the page has the words of its node.
use Rattle.std.proofs.Common.{sym, ap, subst, ◌∙◌, arith}
use Rattle.vm_node.proofs.Telling.{told_buffer}
use Rattle.vm_bytes_form.specs.Forms.{IsFitting, form_of, node_in}
use Rattle.vm_bytes_edit.proofs.Formed.{clean_answer, copied_all, unfit}
use Rattle.vm_bytes_edit.proofs.Splices.{no_empty_high}
use Rattle.vm_bytes_edit.proofs.form.is_form.Goals as goal

pub returns-then-not-fits : goal.returns-then-not-fits
returns-then-not-fits c =
    let told = c.count_at-count.ensures.told in
    let all = told_buffer told told.through c.in_buffer.ensures.same c.in_buffer.ensures.size in
    unfit c.args.page.now _ (c.fits.ensures all) c.if-not-fits.true

pub returns : goal.returns
returns c =
    let n = node_in c.args.page.now in
    let told = c.count_at-count.ensures.told in
    let all = told_buffer told told.through c.in_buffer.ensures.same c.in_buffer.ensures.size in
    let fits = (c.fits.ensures all).0 c.if-not-fits.false in
    let whole = copied_all c.args.page.now _ all in
    let drafted = c.copy.ensures.draft _ (c.begun-draft.ensures.draft (no_empty_high n fits)) (omega (arith, all)) (omega arith)
    (subst (IsFitting 512) (sym whole) fits) in
    clean_answer c.args.page.now _ _ fits (c.into_page.ensures ∙ drafted.form ∙ ap (form_of 512) whole) c.is_same.ensures
