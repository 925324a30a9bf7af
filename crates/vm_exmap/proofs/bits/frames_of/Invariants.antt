use Rattle.vm_exmap.proofs.Prelude.{frames_below, length, ◌≡◌, ◌≤◌}
use Rattle.vm_exmap.proofs.bits.frames_of.Given as goal

-- the frames of the first i bits
abbrev pub invariant-loop-i : goal.invariant-loop-i
invariant-loop-i l = record {
  are : l.frames ≡ frames_below l.i l.g l.mask;
  few : length l.frames ≤ l.i;
}
