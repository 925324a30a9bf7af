use Rattle.std.proofs.Common.{arith}
use Rattle.vm_device.proofs.First.{none_out}
use Rattle.vm_device.proofs.outs.place_of.Goals as goal

pub returns : goal.returns
returns c = none_out _ _ _ (λ k d low. c.looking.invariant k d (omega (arith, low)))
