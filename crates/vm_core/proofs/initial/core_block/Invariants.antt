use Rattle.std.specs.List.{range_with_len}
use Rattle.std.proofs.Common.{◌*◌, ◌+◌, ◌≡◌, length, map, take}
use Rattle.vm_core.proofs.initial.core_block.Given as goal

abbrev pub invariant-loop-i : goal.invariant-loop-i
invariant-loop-i l = record {
  counted : take l.i l.words ≡ map (λ k. 64 * l.p + k) (range_with_len 0 l.i);
  len : length l.words ≡ 64;
}
