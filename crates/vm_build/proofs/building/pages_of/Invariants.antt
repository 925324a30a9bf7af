use Rattle.std.proofs.Common.{◌≡◌, ◌≤◌, length}
use Rattle.vm_build.specs.Build.{built, needed}
use Rattle.vm_build.proofs.building.pages_of.Given as goal

abbrev pub invariant-loop : goal.invariant-loop
invariant-loop g l = (l.made.items ≡ built g.row.N l.counter l.fn.pairs.items)
    × (needed g.row.N (length l.fn.pairs.items) ≤ l.counter) × (l.counter ≤ l.fn.pages)
