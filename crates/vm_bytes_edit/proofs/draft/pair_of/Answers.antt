-- What was told of the page in the buffer holds of the page.
use Rattle.std.proofs.Common.{◌∙◌}
use Rattle.vm_node.proofs.Telling.{told_buffer}
use Rattle.vm_bytes_edit.proofs.draft.pair_of.Goals as goal

pub returns : goal.returns
returns c = λ there.
    let key = c.key_at-key.ensures.told in
    let value = c.value_at.ensures.told in (
      told_buffer key key.through c.in_buffer-place.ensures.same c.in_buffer-place.ensures.size there,
      told_buffer value value.through (key.through.same ∙ c.in_buffer-place.ensures.same) c.key_at-key.ensures.ready there,
    )
