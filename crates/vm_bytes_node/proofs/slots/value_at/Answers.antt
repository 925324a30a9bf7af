-- The value stands behind the key's words, and is 0 where that is past the page's end.
use Rattle.std.proofs.Common.{◌≡◌, ℕ, ◌+◌, ◌/◌, ◌%◌, ◌<◌, [], List, length, get_or, sym, ap, ◌∙◌, arith}
use Rattle.std.proofs.lemmas.List.{get_or_past}
use Rattle.vm_bytes_form.specs.Cuts.{words_for}
use Rattle.vm_bytes_form.specs.Forms.{KeyEntry, node_in}
use Rattle.vm_node.proofs.Telling.{told_word, told_then, told_so}
use Rattle.vm_bytes_node.proofs.SlotLemmas.{entry_is}
use Rattle.vm_bytes_node.proofs.slots.value_at.Goals as goal

module _ (words : List ℕ) (size : length words ≡ 512) (i slot : ℕ) (read : get_or words (8 + i) 0 ≡ slot)
    (there : i < length (node_in words).entries) where
  value_is : (at value : ℕ) → at ≡ slot / 256 + words_for (slot % 256) → get_or words at 0 ≡ value
      → value ≡ (get_or (node_in words).entries i ([], 0)).1
  value_is at value at_is found = sym found ∙ ap (λ (k : ℕ). get_or words k 0) (at_is
      ∙ ap (λ (s : ℕ). s / 256 + words_for (s % 256)) (sym read))
      ∙ sym (ap (λ (e : KeyEntry). e.1) (entry_is words size i there))

pub returns-then-at-clause-told : goal.returns-then-at-clause-told
returns-then-at-clause-told g c =
    told_so (omega arith) (told_then g.met.P.Place.join (told_word c.word-slot.ensures.loads) (told_word c.word.ensures.loads))
    (λ words size read there. value_is words size c.args.i _ read.0 there _ _ (omega (arith, c.words_of.ensures)) read.1)

pub returns-else-at-clause-told : goal.returns-else-at-clause-told
returns-else-at-clause-told g c =
    let past = c.if-at.false in
    told_so (omega arith) (told_word c.word-slot.ensures.loads)
    (λ words size read there. value_is words size c.args.i _ read there
    (c.word-slot.result / 256 + c.words_of.result) 0 (omega (arith, c.words_of.ensures))
    (get_or_past words _ 0 (omega (arith, past, size))))
