-- Each word shows eight bytes more, and at most eight words are needed.
use Rattle.std.proofs.Common.{◌≡◌, ◌⊎◌, ℕ, ◌+◌, ◌-◌, ◌≤◌, ◌++◌, inl, inr, min, arith, ◌∙◌, take, drop}
use Rattle.std.proofs.lemmas.Bool.{cases_lt}
use Rattle.std.proofs.lemmas.List.{length-take}
use Rattle.std.specs.Int.{w64, to_be_bytes}
use Rattle.vm_bytes_form.specs.Cuts.{words_for}
use Rattle.vm_page.specs.Bytes.{bytes_of_words}
use Rattle.vm_node.proofs.Telling.{told_word, told_then, told_so}
use Rattle.vm_bytes_node.proofs.SlotLemmas.{shows_all, shows_more}
use Rattle.vm_bytes_node.proofs.slots.string_at.Goals as goal

enough : (from long words upto i : ℕ) → words ≡ words_for long → upto ≡ min (from + words) 512 → upto ≤ i → from ≤ i
    → (words_for long ≤ i - from) ⊎ (512 ≤ from + (i - from))
enough from long words upto i words_is upto_is past begun = elim (cases_lt (from + words) 512) [
  | inl lt ↦ inl (omega (arith, words_is, upto_is, past, lt))
  | inr more ↦ inr (omega (arith, upto_is, past, more, begun))
]

pub loop-i-preserved : goal.loop-i-preserved
loop-i-preserved g c =
    let inside = c.loop-i-test.true in
    let begun = c.loop-i.invariant.from in
    record {
      ready = c.word-word.ensures.ready;
      size = c.word-word.ensures.size ∙ c.loop-i.invariant.size;
      from = omega (arith, begun);
      fits = rw c.append_word.ensures (omega (arith, length-take c.min-long.result (c.loop-i.key ++ to_be_bytes w64 c.word-word.result)));
      told = told_so {B = λ words. c.append_word.new.key ≡ take c.min-long.result
          (bytes_of_words (take (c.loop-i.i + 1 - c.min-from.result) (drop c.min-from.result words)))} (omega (arith, begun))
          (told_then g.met.P.Place.join c.loop-i.invariant.told (told_word c.word-word.ensures.loads))
          (λ words size read. shows_more words size c.min-from.result c.min-long.result (c.loop-i.i - c.min-from.result) c.loop-i.i
          (c.loop-i.i + 1 - c.min-from.result) c.word-word.result c.loop-i.key _ (omega (arith, begun)) (omega (arith, begun))
          (omega (arith, inside, c.min-upto.ensures)) read.1 read.0 c.append_word.ensures);
    }

pub returns-clause-told : goal.returns-clause-told
returns-clause-told g c =
    let past = c.loop-i-test.false in
    told_so (omega (arith, c.words_of.ensures, c.min-upto.ensures, c.min-long.ensures)) c.loop-i.invariant.told
    (λ words size read. shows_all words size c.min-from.result c.min-long.result c.args.slot
    (c.loop-i.i - c.min-from.result) _ c.min-from.ensures c.min-long.ensures
    (enough c.min-from.result c.min-long.result c.words_of.result c.min-upto.result c.loop-i.i c.words_of.ensures c.min-upto.ensures past
    c.loop-i.invariant.from) read)
