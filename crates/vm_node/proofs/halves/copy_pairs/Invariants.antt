-- The first i words of the last half of the pairs are copied.
use Rattle.std.proofs.Common.{◌≡◌, ℕ, ◌+◌, ◌*◌, ◌<◌, ◌≤◌, length, slice_index}
use Rattle.vm_node.specs.Halves.{half_of}
use Rattle.vm_node.proofs.halves.copy_pairs.Given as goal

abbrev pub invariant-loop-i : goal.invariant-loop-i
invariant-loop-i g l = record {
  right_length : length l.right ≡ g.row.N;
  moved : (k : ℕ) → k < l.i → slice_index l.right (8 + k) ≡ slice_index l.fn.page (8 + 2 * half_of g.row.N + k);
  right_low : (k : ℕ) → k < 8 → slice_index l.right k ≡ slice_index l.fn.right k;
  right_high : (k : ℕ) → 8 + 2 * half_of g.row.N ≤ k → slice_index l.right k ≡ slice_index l.fn.right k;
}
