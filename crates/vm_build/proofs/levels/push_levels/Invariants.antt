use Rattle.std.proofs.Common.{length}
use Rattle.vm_build.proofs.Stack.{IsPushed}
use Rattle.vm_build.proofs.levels.push_levels.Given as goal

abbrev pub invariant-levels : goal.invariant-levels
invariant-levels g l = IsPushed g.row.N l.fn.pairs.items l.fn.pages.items l.pages.items l.level l.entries.items

abbrev pub decreases-levels : goal.decreases-levels
decreases-levels g l = length l.entries.items
