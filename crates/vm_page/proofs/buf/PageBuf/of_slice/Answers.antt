use Rattle.std.proofs.Common.{rules, ◌≡◌, arith, ap, ◌∙◌}
use Rattle.vm_page.specs.Bytes.{bytes_of_words, word_in}
use Rattle.vm_page.proofs.Words.{read_more, read_all, bytes_of-words_of}
use Rattle.vm_page.proofs.buf.PageBuf.of_slice.Goals as goal

pub loop-i-preserved : goal.loop-i-preserved
loop-i-preserved g c =
    let read : c.from_be_bytes.result ≡ word_in c.args.bytes.now c.loop-i.i =
    search (rules, c.copy_from_slice.ensures.after, c.from_be_bytes.ensures) in (
      search rules,
      read_more c.loop-i.words c.args.bytes.now c.loop-i.i c.from_be_bytes.result c.loop-i.invariant.1
          (omega (arith, c.loop-i.invariant.0, c.loop-i-test.true)) read,
    )

pub returns-clause-words : goal.returns-clause-words
returns-clause-words g c = read_all c.loop-i.words c.args.bytes.now c.loop-i.i c.loop-i.invariant.1
    (omega (arith, c.loop-i.invariant.0, c.loop-i-test.false))
    (omega (arith, c.requires.size, c.loop-i-test.false, c.loop-i.auto.i-end))

pub returns-clause-back : goal.returns-clause-back
returns-clause-back g c = ap bytes_of_words (returns-clause-words g c) ∙ bytes_of-words_of c.args.bytes.now g.row.N
    (λ k. omega (arith, c.type_inv.bytes k)) c.requires.size
