-- What was taken and the pairs from place i on are the pairs from the first place on.
use Rattle.std.proofs.Common.{◌≡◌, ◌+◌, ◌*◌, ◌≤◌, length, min}
use Rattle.vm_node.specs.Sizes.{looks_for}
use Rattle.vm_node.specs.Loads.{Tells}
use Rattle.vm_node.proofs.WindowSteps.{IsTaking}
use Rattle.vm_node.proofs.shown.window_at.Given as goal

abbrev pub invariant-loop-i : goal.invariant-loop-i
invariant-loop-i g l = record {
  ready : g.P.Place.ready l.place;
  size : g.P.Place.size l.place ≡ l.words;
  few : length l.pairs ≤ min l.most 28;
  told : Tells l.words g.P.Place.loads l.fn.place (looks_for l.words + 1 + 2 * length l.pairs) l.place
      (IsTaking l.words l.start l.count l.i l.pairs);
}
