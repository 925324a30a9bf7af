use Rattle.std.proofs.Common.{inl, inr, arith, rules, length-take}
use Rattle.vm_io.proofs.Fronts.{front_more, whole_end}
use Rattle.vm_io.proofs.loops.read_whole.Goals as goal
use Rattle.vm_io.proofs.loops.read_whole.Goals.{then-count-eq0-via-then-count-eq0, then-count-eq0-via-else-count-eq0+then-len-limit}

pub returns-then-count-eq0-clause-whole : goal.returns-then-count-eq0-clause-whole
returns-then-count-eq0-clause-whole g c =
    whole_end _ _ _ _ _ c.in_ok-count.count c.reading.invariant.front
    (rw c.reading.invariant.keeps at c.in_ok-count.ensures.more) (omega (arith, c.reading.bytes.ok.0))
    (omega (
      arith,
      c.append_more.new.bytes.ok.0,
      c.in_ok-count.ensures.len,
      c.in_ok-count.ensures.count,
      length-take c.min-room.result c.reading.chunk,
    ))
    (elim c.then-count-eq0.branch [
      | then-count-eq0-via-then-count-eq0 w ↦
          inl (omega arith)
      | then-count-eq0-via-else-count-eq0+then-len-limit w ↦
          inr (omega (arith, w.if-len-limit.true))
    ])

pub reading-preserved : goal.reading-preserved
reading-preserved g c = record {
  room = omega arith;
  keeps = search rules;
  apart = search rules;
  steady = search rules;
  front = front_more _ _ _ _ c.in_ok-count.count c.reading.invariant.front (rw c.reading.invariant.keeps at c.in_ok-count.ensures.more);
}
