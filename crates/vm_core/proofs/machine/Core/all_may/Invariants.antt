use Rattle.std.proofs.Common.{◌<◌, ◌≡◌, true, ℕ}
use Rattle.vm_event.specs.PageStep.{PageLegal}
use Rattle.vm_core.specs.Prelude.{core_of}
use Rattle.vm_core.proofs.machine.Core.all_may.Given as goal

abbrev pub invariant-loop-q : goal.invariant-loop-q
invariant-loop-q l =
    (q : ℕ) → q < l.q → (core_of l.self).head q ≡ l.h
    → PageLegal true (core_of l.self).words ((core_of l.self).pages q) l.a l.act
