-- Each look halves what is left.
use Rattle.std.proofs.Common.{refl, arith, ◌∙◌}
use Rattle.vm_node.proofs.Searches.{search_begins, search_ends, search_right, search_left}
use Rattle.vm_node.proofs.pairs.upper_bound_at.Goals as goal

pub halves-init : goal.halves-init
halves-init g c = record {
  ready = c.requires.ready;
  size = c.requires.size;
  order = omega arith;
  inside = omega arith;
  searched = search_begins (g.met.P.Place.none _ c.requires.ready) c.requires.sized c.requires.count;
  low = omega arith;
  next = tt;
}

pub halves-preserved-then-found-key : goal.halves-preserved-then-found-key
halves-preserved-then-found-key g c = record {
  ready = c.word-found.ensures.ready;
  size = c.word-found.ensures.size ∙ c.halves.invariant.size;
  order = omega arith;
  inside = c.halves.invariant.inside;
  searched = search_right c.requires.sized g.met.P.Place.join c.halves.invariant.searched c.halves-test.true
      c.halves.invariant.inside refl c.word-found.ensures.loads (omega (arith, c.if-found-key.true));
  low = c.if-found-key.true;
  next = c.halves.invariant.next;
}

pub halves-preserved : goal.halves-preserved
halves-preserved g c = record {
  ready = c.word-found.ensures.ready;
  size = c.word-found.ensures.size ∙ c.halves.invariant.size;
  order = omega arith;
  inside = omega arith;
  searched = search_left c.requires.sized g.met.P.Place.join c.halves.invariant.searched c.halves-test.true
      c.halves.invariant.inside refl c.word-found.ensures.loads (omega (arith, c.if-found-key.false));
  low = c.halves.invariant.low;
  next = c.if-found-key.false;
}

pub returns-clause-told : goal.returns-clause-told
returns-clause-told g c = search_ends c.halves.invariant.searched c.halves.invariant.order c.halves-test.false c.halves.invariant.inside

pub returns-clause-low : goal.returns-clause-low
returns-clause-low g c = c.halves.invariant.low

pub returns-clause-next : goal.returns-clause-next
returns-clause-next g c = c.halves.invariant.next
