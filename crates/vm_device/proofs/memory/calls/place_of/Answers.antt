use Rattle.std.proofs.Common.{arith}
use Rattle.vm_device.proofs.Named.{none_named}
use Rattle.vm_device.proofs.memory.calls.place_of.Goals as goal

pub returns : goal.returns
returns g c = none_named _ _ (λ k d low. c.looking.invariant k d (omega (arith, low)))
