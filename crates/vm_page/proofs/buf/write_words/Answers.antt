use Rattle.std.proofs.Common.{rules, arith, ap, ◌∙◌}
use Rattle.std.proofs.lemmas.Slice.{overwrites}
use Rattle.vm_page.specs.Bytes.{words_of_bytes}
use Rattle.vm_page.proofs.Words.{written_more, written_all, words_of-bytes_of}
use Rattle.vm_page.proofs.buf.write_words.Goals as goal

pub loop-i-preserved : goal.loop-i-preserved
loop-i-preserved c = (
  search (rules, overwrites),
  rw (c.copy_from_slice.ensures.after, c.to_be_bytes.ensures)
      (written_more c.loop-i.bytes c.args.words.now c.loop-i.i _ c.loop-i.invariant.1
      (omega (arith, c.loop-i.invariant.0, c.loop-i-test.true)) (omega (arith, c.loop-i-test.true))),
)

pub returns-clause-back : goal.returns-clause-back
returns-clause-back c =
    let whole = written_all c.loop-i.bytes c.args.words.now c.loop-i.i c.loop-i.invariant.1
    (omega (arith, c.loop-i.invariant.0, c.loop-i-test.false)) (omega (arith, c.loop-i-test.false)) in
    ap words_of_bytes whole ∙ words_of-bytes_of c.args.words.now (λ k. omega (arith, c.type_inv.words k))
