use Rattle.std.proofs.Common.{◌<◌, ◌≡◌, false, true, ℕ}
use Rattle.vm_event.specs.Prelude.{in_mask}
use Rattle.vm_core.specs.Prelude.{held_of}
use Rattle.vm_core.proofs.machine.Core.nobody_else_holds.Given as goal

abbrev pub invariant-loop-b : goal.invariant-loop-b
invariant-loop-b l = (b : ℕ) → b < l.b → (p : ℕ) → (b ≡ l.a → ⊥) → in_mask l.g l.mask p ≡ true → held_of l.self.numbers b p ≡ false
