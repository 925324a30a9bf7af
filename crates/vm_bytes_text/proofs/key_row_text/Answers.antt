-- A key is the string of its rank.
use Rattle.std.proofs.Common.{◌++◌, ◌∙◌, ap, if◌then◌else◌, is_ok, List, sym, ℕ}
use Rattle.vm_bytes_form.proofs.Ranks.{string_of_rank}
use Rattle.vm_bytes_text.specs.KeyTexts.{key_text, line_with}
use Rattle.vm_bytes_text.proofs.key_row_text.Goals as goal

pub returns : goal.returns
returns c =
    let string = c.in_range.ensures.string in
    let line = c.as_bytes.ensures.value ∙ c.in_ok-line.ensures ∙ ap (λ (key : List ℕ). line_with key c.args.value) (c.deref.ensures ∙ c.in_ok-text.ensures)
    ∙ ap (λ (key : List ℕ). line_with (key_text key) c.args.value) (sym (string_of_rank 64 c.args.key.now string.fits string.bytes)) in
    c.extend_from_slice.ensures.items
    ∙ ap (λ (more : List ℕ). if is_ok c.extend_from_slice.result then c.args.out.now.items ++ more else c.args.out.now.items) line
