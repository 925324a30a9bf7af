-- A put writes over the value, or puts a pair in, or refuses.
use Rattle.std.proofs.Common.{◌≡◌, ◌≢◌, ◌+◌, ◌*◌, ◌<◌, Some, min, slice_index, refl, sym, ap, ◌∙◌, subst, arith}
use Rattle.vm_node.proofs.Puts.{over_node, over_was, absent, into_node}
use Rattle.vm_node.proofs.Editing.{over_is, into_is}
use Rattle.vm_node.proofs.Indexes.{not-absent}
use Rattle.vm_node.proofs.Leaves.{adds_leaf}
use Rattle.vm_tree_model.specs.Fixed.{fixed, fixed_pairs, capacity}
use Rattle.vm_tree_model.specs.Edits.{AddsPair}
use Rattle.vm_tree_model.proofs.FixedLaws.{ones_are}
use Rattle.vm_node.proofs.edit.put_edit.Goals.{else-at-count-via-then-at-count+else-key_at-key, else-at-count-via-else-at-count}
use Rattle.vm_node.proofs.edit.put_edit.Goals as goal

pub returns-then-key_at-key-clause-node : goal.returns-then-key_at-key-clause-node
returns-then-key_at-key-clause-node g c low high rises =
    let words = c.args.page.now in
    let size = c.count_of-count.ensures.words in
    let at = c.lower_bound-at.result in
    let lt : at < min (slice_index words 1) (capacity g.row.N) = omega (arith, c.if-at-count.true, c.count_of-count.ensures.count) in
    let same : slice_index words (8 + 2 * at) ≡ c.args.key = sym c.key_at.ensures.word ∙ c.if-key_at-key.true in
    subst (λ new. AddsPair (fixed g.row.N) words new c.args.key c.args.value)
    (sym (over_is g.row.N c.requires words size at c.args.value (omega (arith, lt))))
    (over_node g.row.N c.requires words size c.args.key c.args.value at (c.lower_bound-at.ensures.place low high rises) lt same)

pub returns-then-key_at-key-clause-was : goal.returns-then-key_at-key-clause-was
returns-then-key_at-key-clause-was g c low high rises =
    let words = c.args.page.now in
    let lt : c.lower_bound-at.result < min (slice_index words 1) (capacity g.row.N) =
    omega (arith, c.if-at-count.true, c.count_of-count.ensures.count) in
    let same : slice_index words (8 + 2 * c.lower_bound-at.result) ≡ c.args.key = sym c.key_at.ensures.word ∙ c.if-key_at-key.true in
    ap Some c.value_at.ensures.word
    ∙ sym (over_was g.row.N c.requires words c.count_of-count.ensures.words c.args.key c.args.value
    c.lower_bound-at.result (c.lower_bound-at.ensures.place low high rises) lt same)

pub returns-then-key_at-key-clause-room : goal.returns-then-key_at-key-clause-room
returns-then-key_at-key-clause-room g c full =
    not-absent (fixed_pairs g.row.N c.args.page.now) c.args.key c.lower_bound-at.result
    (omega (arith, c.if-at-count.true, c.count_of-count.ensures.pairs))
    (sym c.key_at.ensures.pair ∙ c.if-key_at-key.true) full.absent

pub returns-then-key_at-key-clause-full : goal.returns-then-key_at-key-clause-full
returns-then-key_at-key-clause-full g c leaf = (returns-then-key_at-key-clause-node g c _ _ leaf.node.rises).not_full

pub returns-then-key_at-key-clause-leaf : goal.returns-then-key_at-key-clause-leaf
returns-then-key_at-key-clause-leaf g c leaf covers =
    let node = returns-then-key_at-key-clause-node g c _ _ leaf.node.rises in
    record {
      was_there = returns-then-key_at-key-clause-was g c _ _ leaf.node.rises;
      not_full = node.not_full;
      after = adds_leaf (fixed g.row.N) _ _ _ _ node leaf covers;
    }

pub returns-then-count-most_pairs-clause-refused : goal.returns-then-count-most_pairs-clause-refused
returns-then-count-most_pairs-clause-refused g c = record {
  same = refl;
  count = omega (
    arith,
    ones_are (fixed_pairs g.row.N c.args.page.now),
    c.count_of-count.ensures.pairs,
    c.if-count-most_pairs.true,
    c.most_pairs.ensures,
  );
  absent = λ low high rises. absent g.row.N c.requires c.args.page.now c.count_of-count.ensures.words c.args.key
      c.args.value c.lower_bound-at.result (c.lower_bound-at.ensures.place low high rises)
      (λ lt same. elim c.else-at-count.branch [
        | else-at-count-via-then-at-count+else-key_at-key w ↦ w.if-key_at-key.false (w.key_at.ensures.word ∙ same)
        | else-at-count-via-else-at-count w ↦ omega (arith, lt, w.if-at-count.false, c.count_of-count.ensures.count)
      ]) low high rises;
}

pub returns-then-count-most_pairs-clause-full : goal.returns-then-count-most_pairs-clause-full
returns-then-count-most_pairs-clause-full g c leaf = let refused = returns-then-count-most_pairs-clause-refused g c in
    record { count = refused.count; absent = refused.absent _ _ leaf.node.rises }

-- the pair at the key's place has another key
other : (g : _) (c : goal.Else-count-most_pairs g) → c.lower_bound-at.result < min (slice_index c.args.page.now 1)
    (capacity g.row.N) → slice_index c.args.page.now (8 + 2 * c.lower_bound-at.result) ≢ c.args.key
other g c lt same = elim c.else-at-count.branch [
  | else-at-count-via-then-at-count+else-key_at-key w ↦ w.if-key_at-key.false (w.key_at.ensures.word ∙ same)
  | else-at-count-via-else-at-count w ↦ omega (arith, lt, w.if-at-count.false, c.count_of-count.ensures.count)
]

pub returns-clause-node : goal.returns-clause-node
returns-clause-node g c low high rises =
    let place = c.lower_bound-at.ensures.place low high rises in
    into_node g.row.N c.requires c.args.page.now _ c.lower_bound-at.result c.count_of-count.result c.args.key c.args.value
    (into_is g.row.N c.requires c.args.page.now c.count_of-count.ensures.words c.lower_bound-at.result
    c.count_of-count.result c.args.key c.args.value c.count_of-count.ensures.count
    (omega (arith, c.lower_bound-at.ensures.bound.inside, c.count_of-count.ensures.pairs))
    (omega (arith, c.count_of-count.ensures.count, c.if-count-most_pairs.false, c.most_pairs.ensures)))
    place (other g c)

pub returns-clause-was : goal.returns-clause-was
returns-clause-was g c low high rises =
    sym (absent g.row.N c.requires c.args.page.now c.count_of-count.ensures.words c.args.key c.args.value
    c.lower_bound-at.result (c.lower_bound-at.ensures.place low high rises) (other g c) low high rises)

pub returns-clause-leaf : goal.returns-clause-leaf
returns-clause-leaf g c leaf covers =
    let node = returns-clause-node g c _ _ leaf.node.rises in
    record {
      was_there = returns-clause-was g c _ _ leaf.node.rises;
      not_full = node.not_full;
      after = adds_leaf (fixed g.row.N) _ _ _ _ node leaf covers;
    }

pub returns-clause-room : goal.returns-clause-room
returns-clause-room g c full =
    omega (
      arith,
      full.count,
      ones_are (fixed_pairs g.row.N c.args.page.now),
      c.count_of-count.ensures.pairs,
      c.count_of-count.ensures.count,
      c.if-count-most_pairs.false,
      c.most_pairs.ensures,
    )

pub returns-clause-full : goal.returns-clause-full
returns-clause-full g c leaf full = returns-clause-room g c full
