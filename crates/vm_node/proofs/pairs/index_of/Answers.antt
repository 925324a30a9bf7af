-- Among keys that rise the pair at the bound is the one with the key, or there is none.
use Rattle.std.proofs.Common.{sym, ◌∙◌, arith}
use Rattle.vm_tree_model.specs.Fixed.{fixed_pairs}
use Rattle.vm_node.proofs.Bounds.{index_is, no_index}
use Rattle.vm_node.proofs.pairs.index_of.Goals.{else-at-count_of-via-then-at-count_of+else-key_at-key}
use Rattle.vm_node.proofs.pairs.index_of.Goals.{else-at-count_of-via-else-at-count_of}
use Rattle.vm_node.proofs.pairs.index_of.Goals as goal

pub returns-then-key_at-key-clause-rising : goal.returns-then-key_at-key-clause-rising
returns-then-key_at-key-clause-rising g c low high rises =
    index_is (fixed_pairs g.row.N c.args.page.now) low high c.args.key c.lower_bound-at.result rises
    (c.lower_bound-at.ensures.place low high rises)
    (record {
      there = omega (arith, c.count_of.ensures.pairs, c.if-at-count_of.true);
      has = sym c.key_at.ensures.pair ∙ c.if-key_at-key.true;
    })

pub returns-else-at-count_of-clause-rising : goal.returns-else-at-count_of-clause-rising
returns-else-at-count_of-clause-rising g c low high rises =
    no_index (fixed_pairs g.row.N c.args.page.now) low high c.args.key c.lower_bound-at.result rises
    (c.lower_bound-at.ensures.place low high rises) (λ lt same. elim c.else-at-count_of.branch [
      | else-at-count_of-via-then-at-count_of+else-key_at-key w ↦ w.if-key_at-key.false (w.key_at.ensures.pair ∙ same)
      | else-at-count_of-via-else-at-count_of w ↦ omega (arith, lt, w.if-at-count_of.false, c.count_of.ensures.pairs)
    ])
