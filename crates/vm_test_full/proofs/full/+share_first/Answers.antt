use Rattle.std.proofs.Common.{◌≤◌, arith, inl}
use Rattle.vm_event.specs.Prelude.{state_of}
use Rattle.vm_test_full.proofs.full.+share_first.Goals as goal

no_shares : state_of 1 ≤ 251
unfolding state_of
no_shares = omega arith

pub lock_shared_silently-requires-clause-legal : goal.lock_shared_silently-requires-clause-legal
lock_shared_silently-requires-clause-legal t g c = inl no_shares
