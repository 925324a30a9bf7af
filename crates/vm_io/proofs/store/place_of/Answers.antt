use Rattle.std.proofs.Common.{arith}
use Rattle.vm_io.proofs.Places.{none_named}
use Rattle.vm_io.proofs.store.place_of.Goals as goal

pub returns : goal.returns
returns c = none_named _ _ (λ k d low. c.files.invariant k d (omega (arith, low)))
