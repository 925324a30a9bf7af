use Rattle.std.proofs.Common.{inl, inr}
use Rattle.vm_pool.specs.from_vm_guard.Guards.{placed}
use Rattle.vm_tree_rule.proofs.{Downward.node-later, OnWay.way-later, Surely.known-same}
use Rattle.vm_tree_rule.proofs.Readings.{loads-reads, opened-loads}
use Rattle.vm_tree_rule.proofs.Whole.{tree_key}
use Rattle.vm_tree_read.proofs.Answering.{none-whole}
use Rattle.vm_tree_read.proofs.answer.read_leaf.Goals.{else-is_leaf-via-else-is_leaf, else-is_leaf-via-then-is_leaf+else-covers}
use Rattle.vm_tree_read.proofs.answer.read_leaf.Goals as goal

pub returns-clause-err : goal.returns-clause-err
returns-clause-err g c v o leaf =
    let loads = c.read_all.ensures.loads in
    let reads = loads-reads _ _ _ _ _ _ loads in
    c.no_leaf.ensures.turn v (g.K.Kind.rank c.args.key.now) leaf.low leaf.high (placed 0 (g.K.Pages.words_of c.read_all.new.into))
    (opened-loads _ _ _ _ _ _ _ o loads) (node-later _ _ _ _ _ _ _ reads.0 leaf.awaits) (way-later _ _ _ _ _ _ _ _ reads leaf.way)
    (_, loads.loads)
    (none-whole g.K.Kind.layout (g.K.Pages.words_of c.read_all.new.into) (g.K.Kind.rank c.args.key.now) leaf.low leaf.high
    leaf.from leaf.below c.read_all.ensures.size (elim c.else-is_leaf.branch [
      | else-is_leaf-via-then-is_leaf+else-covers w ↦ inr (w.covers.ensures.1 w.if-covers.false)
      | else-is_leaf-via-else-is_leaf w ↦ inl (c.is_leaf.ensures.1 w.if-is_leaf.false)
    ]))

pub returns-clause-sure : goal.returns-clause-sure
returns-clause-sure g c v tells k leaf =
    let loads = c.read_all.ensures.loads in
    let reads = (loads-reads _ _ _ _ _ _ loads).0 in
    absurd (c.no_leaf.ensures.sure _ leaf.low leaf.high
    (placed 0 (g.K.Pages.words_of c.read_all.new.into)) tells (known-same _ _ _ _ reads loads.table k)
    (node-later _ _ _ _ _ _ _ reads leaf.awaits)
    (_, loads.loads)
    (none-whole g.K.Kind.layout (g.K.Pages.words_of c.read_all.new.into) (g.K.Kind.rank c.args.key.now) leaf.low leaf.high
    leaf.from leaf.below c.read_all.ensures.size (elim c.else-is_leaf.branch [
      | else-is_leaf-via-then-is_leaf+else-covers w ↦ inr (w.covers.ensures.1 w.if-covers.false)
      | else-is_leaf-via-else-is_leaf w ↦ inl (c.is_leaf.ensures.1 w.if-is_leaf.false)
    ])))

-- the buffer has as many words as the page
pub read_all-requires-clause-size : goal.read_all-requires-clause-size
read_all-requires-clause-size g c = tree_key _ _ c.args.words.now.sized.0 c.args.words.now.size.takes
