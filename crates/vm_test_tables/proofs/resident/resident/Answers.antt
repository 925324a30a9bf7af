use Rattle.std.proofs.Common.{◌∙◌, ℕ}
use Rattle.vm_rule.proofs.Whole.{whole-each}
use Rattle.vm_test_tables.proofs.resident.resident.Goals as goal

pub started-requires-clause-whole : goal.started-requires-clause-whole
started-requires-clause-whole g c t = whole-each g.B.Block.stored g.row.N c.args.blocks.items (λ b. g.met.B.PageBlock.whole b t)

pub loop-p-preserved : goal.loop-p-preserved
loop-p-preserved g c = record {
  ready = c.in_ok-bring.ensures.ready;
  start = c.in_ok-bring.ensures.start ∙ c.loop-p.invariant.start;
  out = c.in_ok-bring.ensures.out;
  owed = c.in_ok-bring.ensures.owed ∙ c.loop-p.invariant.owed;
  writing = λ (q : ℕ). c.in_ok-bring.ensures.writing q ∙ c.loop-p.invariant.writing q;
}
