use Rattle.std.proofs.Common.{◌≡◌, ◌≤◌, ◌++◌, length, take}
use Rattle.vm_bytes_node.proofs.slots.append_word.Given as goal

abbrev pub invariant-loop-byte : goal.invariant-loop-byte
invariant-loop-byte l = record {
  fits : length l.key ≤ l.most;
  has : l.key ≡ take l.most (l.fn.key ++ take l.byte-index l.byte-items);
}
