-- The two pairs stand before and at the place where the keys begin to be above, or are the last ones.
use Rattle.std.proofs.Common.{◌≡◌, ◌+◌, ◌-◌, ◌≤◌, inl, inr, length, min, arith}
use Rattle.vm_tree_model.specs.Fixed.{fixed, fixed_pairs}
use Rattle.vm_node.proofs.Telling.{told_buffer}
use Rattle.vm_inner.proofs.Siblings.{are_beside, no_child}
use Rattle.vm_inner.proofs.neighbours.beside.Goals as goal

pub returns-then-at-eq0 : goal.returns-then-at-eq0
returns-then-at-eq0 g c low high rises =
    let told = told_buffer c.upper_bound_at-at.ensures.told c.upper_bound_at-at.ensures.told.through
    c.in_buffer-place.ensures.same c.in_buffer-place.ensures.size in
    elim c.then-at-eq0.either [
      | inl none ↦ no_child (fixed g.row.N) c.args.page.now c.args.key c.upper_bound_at-at.result.at
          (told c.count_of-count.ensures.pairs).0 low high rises none
      | inr few ↦ inl (omega (arith, few.1, c.count_of-count.ensures.pairs))
    ]

pub returns : goal.returns
returns g c low high rises =
    let told = told_buffer c.upper_bound_at-at.ensures.told c.upper_bound_at-at.ensures.told.through
    c.in_buffer-place.ensures.same c.in_buffer-place.ensures.size in
    let bound = (told c.count_of-count.ensures.pairs).0 in
    let more : 2 ≤ length (fixed_pairs g.row.N c.args.page.now) = omega (arith, c.if-count-lt2.false, c.count_of-count.ensures.pairs) in
    let place : c.min-first.result - 1 + 1 ≡ min c.upper_bound_at-at.result.at (length (fixed_pairs g.row.N c.args.page.now) - 1)
    = omega (arith, c.min-first.ensures, c.if-at-eq0.false, more, c.count_of-count.ensures.pairs) in
    rw (c.key_at.ensures.pair, c.value_at.ensures.pair, c.key_at-2.ensures.pair, c.value_at-2.ensures.pair)
    (are_beside (fixed g.row.N) c.args.page.now c.args.key c.upper_bound_at-at.result.at bound
    (c.min-first.result - 1) c.if-at-eq0.false more place low high rises)
