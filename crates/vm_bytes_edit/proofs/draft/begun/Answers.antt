-- The header is read off the page in the buffer.
use Rattle.std.proofs.Common.{sym, ◌∙◌}
use Rattle.vm_bytes_form.specs.Forms.{node_in}
use Rattle.vm_node.proofs.Telling.{told_buffer}
use Rattle.vm_bytes_edit.proofs.Splices.{begun_of, high_long}
use Rattle.vm_bytes_edit.proofs.draft.begun.Goals as goal

pub returns-in-Some-clause-draft : goal.returns-in-Some-clause-draft
returns-in-Some-clause-draft c = λ long.
    let low = c.low_at-low.ensures.told in
    let high = c.in-Some.ensures.told in
    let low_read = told_buffer low low.through c.in_buffer-place.ensures.same c.in_buffer-place.ensures.size in
    let high_read = told_buffer high high.through (low.through.same ∙ c.in_buffer-place.ensures.same) c.low_at-low.ensures.ready in
    begun_of c.args.page.now _ _ _ _ _ _ _ c.get.ensures.word c.get-2.ensures.word low_read high_read
    (c.close.ensures.draft _ _ _ c.new-draft.ensures.draft (high_long (node_in c.args.page.now) _ long high_read))

pub returns-in_default-clause-draft : goal.returns-in_default-clause-draft
returns-in_default-clause-draft c = λ long.
    let low = c.low_at-low.ensures.told in
    let high = c.high_at.ensures.told in
    let low_read = told_buffer low low.through c.in_buffer-place.ensures.same c.in_buffer-place.ensures.size in
    let high_read = told_buffer high high.through (low.through.same ∙ c.in_buffer-place.ensures.same) c.low_at-low.ensures.ready in
    begun_of c.args.page.now _ _ _ _ _ _ _ c.get.ensures.word c.get-2.ensures.word low_read (sym c.in_default.is
    ∙ high_read) c.new-draft.ensures.draft
