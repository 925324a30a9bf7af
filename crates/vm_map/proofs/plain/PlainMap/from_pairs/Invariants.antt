use Rattle.std.proofs.Common.{◌≡◌, take}
use Rattle.vm_map.proofs.plain.PlainMap.from_pairs.Given as goal

abbrev pub invariant-pairs : goal.invariant-pairs
invariant-pairs l = l.entries.entries ≡ take l.pair-index l.pairs
