use Rattle.vm_pool.proofs.Sums.{each-bounded, sum-bounded, sum-whole}
use Rattle.vm_pool.proofs.ended.Ended.of.Goals as goal

pub returns-clause-sums : goal.returns-clause-sums
returns-clause-sums g c =
    let inv = c.loop-block.invariant in
    record {
      reads_are = sum-whole g.B.Block.stored (λ b. b.reads) c.args.blocks.now _ _ c.loop-block-test.false inv.0;
      writes_are = sum-whole g.B.Block.stored (λ b. b.writes) c.args.blocks.now _ _ c.loop-block-test.false inv.1;
      faults_are = sum-whole g.B.Block.stored (λ b. b.count) c.args.blocks.now _ _ c.loop-block-test.false inv.2;
      bounded = sum-bounded g.B.Block.stored g.met.B.Block.bounded c.args.blocks.now;
      each = each-bounded g.B.Block.stored g.met.B.Block.bounded c.args.blocks.now;
    }
