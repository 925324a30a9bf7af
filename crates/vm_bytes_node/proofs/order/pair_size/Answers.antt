use Rattle.std.proofs.Common.{ℕ, ◌+◌, List, length, ap, sym, arith, ◌∙◌}
use Rattle.vm_bytes_form.specs.Strings.{rank}
use Rattle.vm_bytes_form.specs.Cuts.{pair_size as size_of_pair, words_for}
use Rattle.vm_bytes_node.proofs.KeyTests.{pair_size-is}
use Rattle.vm_bytes_node.proofs.order.pair_size.Goals as goal

pub returns-clause-rank : goal.returns-clause-rank
returns-clause-rank c =
    ap (λ (n : ℕ). 2 + n) c.words_of.ensures ∙ sym (pair_size-is c.bytes_of.result.now c.bytes_of.ensures.string)
    ∙ ap (λ (s : List ℕ). size_of_pair (rank s)) c.bytes_of.ensures.value

pub returns-clause-words : goal.returns-clause-words
returns-clause-words c = ap (λ (n : ℕ). 2 + n) (c.words_of.ensures ∙ ap (λ (s : List ℕ). words_for (length s)) c.bytes_of.ensures.value)

pub returns-clause-few : goal.returns-clause-few
returns-clause-few c = omega (arith, c.words_of.ensures, c.bytes_of.ensures.string.fits)
