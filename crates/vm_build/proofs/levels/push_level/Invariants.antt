use Rattle.std.proofs.Common.{◌≡◌, ◌++◌}
use Rattle.vm_build.specs.Levels.{level_pages}
use Rattle.vm_build.proofs.levels.push_level.Given as goal

abbrev pub invariant-loop-n : goal.invariant-loop-n
invariant-loop-n g l = l.pages.items ≡ l.fn.pages.items ++ level_pages g.row.N l.level l.entries l.n
