use Rattle.std.specs.Int.{bit_at}
use Rattle.std.proofs.Common.{◌≡◌, ◌≤◌}
use Rattle.vm_event.specs.Prelude.{sum_below}
use Rattle.vm_guard.proofs.free_pages.bits.Given as goal

-- how many of the first i bits are set
abbrev pub invariant-loop-i : goal.invariant-loop-i
invariant-loop-i l = record {
  counted : l.count ≡ sum_below l.i (bit_at l.word);
  few : l.count ≤ l.i;
}
