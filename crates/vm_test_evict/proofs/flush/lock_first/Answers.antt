use Rattle.std.proofs.Common.{◌<◌, ◌≡◌, arith, inl}
use Rattle.vm_event.specs.Prelude.{MAX_VERSION, state_of, UNLOCKED, version_of}
use Rattle.vm_test_evict.proofs.flush.lock_first.Goals as goal

unlocked : state_of 7 ≡ UNLOCKED
unfolding state_of
unlocked = omega arith

below : version_of 7 < MAX_VERSION
unfolding version_of
below = omega arith

pub lock_exclusive-requires-clause-legal : goal.lock_exclusive-requires-clause-legal
lock_exclusive-requires-clause-legal g c = record { state = inl unlocked; version = below }
