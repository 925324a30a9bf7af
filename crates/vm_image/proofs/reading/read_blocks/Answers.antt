use Rattle.std.proofs.Common.{rules, arith, ◌∙◌, ◌<◌, length}
use Rattle.vm_image.specs.Reading.{IsBlockRead, IsFailedRead}
use Rattle.vm_image.proofs.BlocksRead.{all_read, one_failed, one_more, one_page}
use Rattle.vm_image.proofs.FilePages.{have_more}
use Rattle.vm_image.proofs.reading.read_blocks.Goals as goal

pub returns-in-Err-read-clause-blocks : goal.returns-in-Err-read-clause-blocks
returns-in-Err-read-clause-blocks g c =
    let low : c.loop-p.p < length c.args.blocks.now = omega (arith, c.loop-p-test.true, c.loop-p.invariant.blocks.count) in
    let failed : IsFailedRead g.B.Block.tells (g.B.Block.stored c.index-blocks-p.result) (g.B.Block.stored c.read.new.self) = record {
      words = search rules;
      count = search rules;
      reads = search rules;
      writes = search rules;
      bound = search rules;
    } in
    one_failed g.B.Block.tells g.B.Block.stored c.args.blocks.now c.loop-p.blocks c.loop-p.p c.loop-p.invariant.blocks low
    c.index-blocks-p.result c.index-blocks-p.is c.read.new.self failed

pub loop-p-preserved : goal.loop-p-preserved
loop-p-preserved g c =
    let low : c.loop-p.p < length c.args.blocks.now = omega (arith, c.loop-p-test.true, c.loop-p.invariant.blocks.count) in
    let read : IsBlockRead g.B.Block.tells (g.B.Block.stored c.index-blocks-p.result) (g.B.Block.stored c.read.new.self) = record {
      words = search rules;
      count = search rules;
      reads = search rules;
      writes = search rules;
      bound = search rules;
    } in
    record {
      count = search rules;
      room = search rules;
      words = rw c.push_reserved.ensures.items
          (have_more g.row.N c.loop-p.pages.items c.read.new.into c.loop-p.invariant.words (search rules));
      told = λ t. c.push_reserved.ensures.items
          ∙ one_page g.B.Block.tells g.B.Block.stored c.args.blocks.now c.loop-p.blocks c.loop-p.p c.loop-p.invariant.blocks low
          c.index-blocks-p.result c.index-blocks-p.is c.read.new.self c.loop-p.pages.items c.read.new.into (c.loop-p.invariant.told t)
          (search (rules, t));
      blocks = one_more g.B.Block.tells g.B.Block.stored c.args.blocks.now c.loop-p.blocks c.loop-p.p c.loop-p.invariant.blocks low
          c.index-blocks-p.result c.index-blocks-p.is c.read.new.self read;
    }

pub returns-clause-blocks : goal.returns-clause-blocks
returns-clause-blocks g c = all_read g.B.Block.tells g.B.Block.stored c.args.blocks.now c.loop-p.blocks c.loop-p.p c.loop-p.invariant.blocks
    (omega (arith, c.loop-p-test.false, c.loop-p.invariant.blocks.count))
