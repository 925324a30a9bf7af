use Rattle.std.proofs.Common.{◌≡◌, ◌≤◌, ◌++◌, length}
use Rattle.vm_map.specs.Windows.{from_key}
use Rattle.vm_map.proofs.plain.window_of.Given as goal

abbrev pub invariant-pairs : goal.invariant-pairs
invariant-pairs l = (l.pairs ++ l.key-iterator ≡ from_key l.start l.entries.entries) × (length l.pairs ≤ l.most)
