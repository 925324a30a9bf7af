use Rattle.std.specs.Int.{bit_at}
use Rattle.std.proofs.Common.{◌≡◌, ◌≤◌}
use Rattle.vm_event.specs.Prelude.{sum_below}
use Rattle.vm_event.proofs.words.Bundle.lowest.Given as goal

abbrev pub invariant-loop-i : goal.invariant-loop-i
invariant-loop-i l = record {
  counted : l.count ≡ sum_below l.i (bit_at l.word);
  few : l.count ≤ l.n;
}
