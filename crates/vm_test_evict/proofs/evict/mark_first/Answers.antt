use Rattle.std.proofs.Common.{◌≡◌, arith}
use Rattle.vm_event.specs.Prelude.{state_of, UNLOCKED}
use Rattle.vm_test_evict.proofs.evict.mark_first.Goals as goal

unlocked : state_of 7 ≡ UNLOCKED
unfolding state_of
unlocked = omega arith

pub mark-requires-clause-legal : goal.mark-requires-clause-legal
mark-requires-clause-legal g c = unlocked
