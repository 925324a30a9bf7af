use Rattle.std.proofs.Common.{◌++◌, ◌≡◌, drop, map, take}
use Rattle.vm_c.specs.Shows.{as_shown}
use Rattle.vm_c.proofs.showing.show_pairs.Given as goal

abbrev pub invariant-loop-i : goal.invariant-loop-i
invariant-loop-i l = l.pairs ≡ map as_shown (take l.i l.from) ++ drop l.i l.fn.pairs
