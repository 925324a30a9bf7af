-- What was taken and the entries from place i on are those from the start on.
use Rattle.std.proofs.Common.{◌≡◌, ◌+◌, ◌*◌, ◌≤◌, length, min}
use Rattle.vm_node.specs.Loads.{Tells}
use Rattle.vm_bytes_node.proofs.WindowSteps.{IsShowing}
use Rattle.vm_bytes_node.proofs.shown.window_at.Given as goal

abbrev pub invariant-loop-i : goal.invariant-loop-i
invariant-loop-i g l = record {
  ready : g.P.Place.ready l.place;
  size : g.P.Place.size l.place ≡ 512;
  few : length l.pairs ≤ min l.most 28;
  told : Tells 512 g.P.Place.loads l.fn.place (82 + 11 * length l.pairs) l.place (IsShowing l.start l.count l.i l.pairs);
}
