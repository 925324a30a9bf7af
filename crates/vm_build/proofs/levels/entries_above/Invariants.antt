use Rattle.std.proofs.Common.{◌≡◌}
use Rattle.vm_build.specs.Levels.{entries_above as entries_over}
use Rattle.vm_build.proofs.levels.entries_above.Given as goal

abbrev pub invariant-loop-n : goal.invariant-loop-n
invariant-loop-n l = l.above.items ≡ entries_over l.words l.page l.entries l.n
