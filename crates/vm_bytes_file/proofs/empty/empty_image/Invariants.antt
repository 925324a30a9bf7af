use Rattle.std.proofs.Common.{◌≡◌, ◌≤◌}
use Rattle.vm_bytes_file.specs.KeyFiles.{empty_pages}
use Rattle.vm_bytes_file.proofs.empty.empty_image.Given as goal

-- the free pages up to this one are made
abbrev pub invariant-loop-free : goal.invariant-loop-free
invariant-loop-free l = (2 ≤ l._free) × (l.made.items ≡ empty_pages l._free)
