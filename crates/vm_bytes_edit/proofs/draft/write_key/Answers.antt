-- Each turn writes a word more of the string.
use Rattle.std.proofs.Common.{◌≡◌, ℕ, ◌+◌, List, length, ap, sym, ◌∙◌, arith, get_or, set}
use Rattle.std.proofs.lemmas.List.{take_all}
use Rattle.vm_bytes_form.specs.Forms.{key_block}
use Rattle.vm_bytes_form.specs.Cuts.{words_for}
use Rattle.vm_bytes_form.proofs.RoundTrip.{length-string_words}
use Rattle.vm_bytes_edit.specs.Drafts.{over}
use Rattle.vm_bytes_edit.proofs.FormLists.{over_more}
use Rattle.vm_bytes_edit.proofs.draft.write_key.Goals as goal

count_is : (s : List ℕ) (count len : ℕ) → count ≡ words_for len → len ≡ length s → count ≡ length (key_block s)
count_is s count len words long = words ∙ ap words_for long ∙ sym (length-string_words (words_for (length s)) s)

pub loop-i-preserved : goal.loop-i-preserved
loop-i-preserved c =
    let count = count_is c.args.key.now c.words_of-i-end.result c.len.result c.words_of-i-end.ensures c.len.ensures.value in
    let inside = c.loop-i-test.true in
    let asked = c.requires in (
      omega (arith, inside),
      c.set.ensures.words ∙ ap (λ (p : List ℕ). set p (c.args.at + c.loop-i.i) c.key_word-word.result) c.loop-i.invariant.1
          ∙ over_more c.args.page.now (key_block c.args.key.now) c.args.at c.loop-i.i c.key_word-word.result (omega (arith, inside, count))
          (omega (arith, asked, length-string_words (words_for (length c.args.key.now)) c.args.key.now, c.get.ensures.length))
          (sym (c.key_word-word.ensures ∙ ap (λ (s : List ℕ). get_or (key_block s) c.loop-i.i 0) c.as_slice.ensures.value)),
    )

pub returns : goal.returns
returns c =
    let count = count_is c.args.key.now c.words_of-i-end.result c.len.result c.words_of-i-end.ensures c.len.ensures.value in
    let past = c.loop-i-test.false in
    let whole = take_all c.loop-i.i (key_block c.args.key.now) (omega (arith, past, count)) in
    c.loop-i.invariant.1 ∙ ap (λ (b : List ℕ). over c.args.page.now c.args.at b) whole
