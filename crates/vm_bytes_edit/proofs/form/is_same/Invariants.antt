-- So far the words are the same.
use Rattle.std.proofs.Common.{◌≡◌, ◌<◌, length, take}
use Rattle.vm_bytes_edit.proofs.form.is_same.Given as goal

abbrev pub invariant-loop-i : goal.invariant-loop-i
invariant-loop-i l = record {
  same : take l.i l.left ≡ take l.i l.right;
  sizes : 0 < l.i → (length l.left ≡ 512) × (length l.right ≡ 512);
}
