use Rattle.std.proofs.Common.{set, ap, sym, ◌∙◌, List, ℕ}
use Rattle.vm_bytes_file.proofs.EmptyTree.{leaf_words}
use Rattle.vm_bytes_file.proofs.empty.leaf_page.Goals as goal

pub returns : goal.returns
returns c = c.set.ensures.words ∙ ap (λ (words : List ℕ). set words 0 4) c.zero-page.ensures ∙ sym leaf_words
