use Rattle.std.proofs.Common.{◌≤◌, arith, inl}
use Rattle.vm_event.specs.Prelude.{state_of}
use Rattle.vm_test_frames.proofs.clock.a_shared_page_counts_as_held.Goals as goal

no-shares : state_of 7 ≤ 251
unfolding state_of
no-shares = omega arith

pub lock_shared_silently-requires-clause-legal : goal.lock_shared_silently-requires-clause-legal
lock_shared_silently-requires-clause-legal g c = inl no-shares
