use Rattle.vm_rule.proofs.Whole.{whole-each}
use Rattle.vm_pool.proofs.pool.Pool.start.Goals as goal

pub started-requires-clause-whole : goal.started-requires-clause-whole
started-requires-clause-whole g c t = whole-each g.B.Block.stored g.row.N c.args.blocks.items (λ b. g.met.B.PageBlock.whole b t)
