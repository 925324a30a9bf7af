-- The header comes with the separator as its high fence, then the first pairs.
use Rattle.std.proofs.Common.{◌∙◌, arith}
use Rattle.vm_node.proofs.Telling.{told_buffer}
use Rattle.vm_bytes_edit.proofs.Splices.{lower_begun}
use Rattle.vm_bytes_edit.proofs.halves.lower_of.Goals as goal

pub returns : goal.returns
returns c = λ inside some fits.
    let low = c.low_at-low.ensures.told in
    let low_read = told_buffer low low.through c.in_buffer.ensures.same c.in_buffer.ensures.size in
    let begun = lower_begun c.args.page.now _ _ _ _ _ c.get.ensures.word c.get-2.ensures.word _ _ low_read
    (c.close.ensures.draft _ _ _ c.new-draft.ensures.draft some) in
    c.into_page.ensures ∙ (c.copy.ensures.draft _ begun inside (omega arith) fits).form
