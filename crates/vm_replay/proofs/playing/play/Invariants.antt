use Rattle.std.proofs.Common.{◌*◌, ◌++◌, ◌+◌, ◌≡◌, ◌≤◌, Bool, drop, length, List, ℕ}
use Rattle.vm_core.specs.Prelude.{core_of}
use Rattle.vm_replay.specs.Played.{Played, PlayedFromStart}
use Rattle.vm_replay.proofs.playing.play.Given as goal

abbrev pub invariant-loop-line : goal.invariant-loop-line
invariant-loop-line l = record {
  told : (rest : List ℕ) (is_legal : Bool) → Played (core_of l.core) l.number l.count (drop l.line-index l.lines) rest
      is_legal → PlayedFromStart l.fn.shape l.groups l.lines (l.text.items ++ rest) is_legal;
  shape : (core_of l.core).shape ≡ l.fn.shape;
  number : l.number ≡ length l.groups + l.line-index + 2;
  count : l.count ≤ 64 * l.line-index;
}
