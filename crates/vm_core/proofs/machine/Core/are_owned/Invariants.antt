use Rattle.std.proofs.Common.{◌+◌, ◌<◌, ◌≡◌, ℕ}
use Rattle.vm_event.specs.Prelude.{IsOwned}
use Rattle.vm_core.specs.Prelude.{core_of}
use Rattle.vm_core.proofs.machine.Core.are_owned.Given as goal

abbrev pub invariant-loop-q : goal.invariant-loop-q
invariant-loop-q l = (q : ℕ) → q < l.q → (core_of l.self).head q ≡ l.h → IsOwned (core_of l.self) q (l.h + 1)
