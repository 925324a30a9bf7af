-- What was appended are the pairs in the range among those before place i.
use Rattle.std.proofs.Common.{◌≡◌, ◌+◌, ◌*◌, ◌≤◌, length}
use Rattle.vm_map.specs.History.{bound_of}
use Rattle.vm_node.specs.Loads.{Tells}
use Rattle.vm_node.proofs.RangeSteps.{IsRanging}
use Rattle.vm_node.proofs.shown.range_at.Given as goal

abbrev pub invariant-loop-i : goal.invariant-loop-i
invariant-loop-i g l = record {
  ready : g.P.Place.ready l.place;
  size : g.P.Place.size l.place ≡ l.words;
  room : l.fn.out.1 ≤ l.out.1 + l.i;
  kept : l.out.1 + length l.out.0 ≡ l.fn.out.1 + length l.fn.out.0;
  told : Tells l.words g.P.Place.loads l.fn.place (3 + 2 * l.i) l.place
      (IsRanging l.words l.from (bound_of l.high) (bound_of l.bound) l.count l.i l.fn.out.0 l.out.0);
}
