use Rattle.std.proofs.Common.{set, ap, ◌∙◌, List, ℕ}
use Rattle.vm_bytes_file.proofs.empty.first_page.Goals as goal

pub returns : goal.returns
returns c = c.set-2.ensures.words ∙ ap (λ (words : List ℕ). set words 1 1) (c.set.ensures.words
    ∙ ap (λ (words : List ℕ). set words 0 0x564D434259544531) c.zero-page.ensures)
