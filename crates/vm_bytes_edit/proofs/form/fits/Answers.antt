-- What the fences and the pairs take is what the node takes.
use Rattle.std.proofs.Common.{ap, ◌∙◌, length, arith}
use Rattle.vm_node.proofs.Telling.{told_buffer}
use Rattle.vm_bytes_form.specs.Cuts.{words_for}
use Rattle.vm_bytes_edit.proofs.Formed.{fits_closed, fits_open}
use Rattle.vm_bytes_edit.proofs.form.fits.Goals as goal

pub returns-then-len-gt0 : goal.returns-then-len-gt0
returns-then-len-gt0 c = λ all.
    let low = c.low_at.ensures.told in
    let high = c.in-Some.ensures.told in
    let low_read = told_buffer low low.through c.in_buffer-place.ensures.same c.in_buffer-place.ensures.size in
    let high_read = told_buffer high high.through (low.through.same ∙ c.in_buffer-place.ensures.same) c.low_at.ensures.ready in
    let some = c.if-len-gt0.true in
    fits_closed c.args.page.now _ _ _ (c.words_of.ensures ∙ ap words_for (c.len.ensures.value ∙ ap length low_read)) all
    (c.sizes_of.ensures.sizes (omega (arith, all))) _ _ high_read
    (c.words_of-then-len-gt0.ensures ∙ ap words_for c.len-then-len-gt0.ensures.value) (omega (arith, some, c.len-in-Some.ensures.value))

pub returns-in-None : goal.returns-in-None
returns-in-None c = λ all.
    let low = c.low_at.ensures.told in
    let high = c.in-None.ensures.told in
    let low_read = told_buffer low low.through c.in_buffer-place.ensures.same c.in_buffer-place.ensures.size in
    let high_read = told_buffer high high.through (low.through.same ∙ c.in_buffer-place.ensures.same) c.low_at.ensures.ready in
    fits_open c.args.page.now _ _ _ (c.words_of.ensures ∙ ap words_for (c.len.ensures.value ∙ ap length low_read)) all
    (c.sizes_of.ensures.sizes (omega (arith, all))) high_read
