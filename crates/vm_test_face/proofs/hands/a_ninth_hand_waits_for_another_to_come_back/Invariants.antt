use Rattle.std.proofs.Common.{◌≤◌, map, true}
use Rattle.std.specs.Arc.{arc_value}
use Rattle.std.specs.Vec.{vec_capacity}
use Rattle.vm_face.specs.{Homes.made_at, Passes.IsStore}
use Rattle.vm_test_face.proofs.hands.a_ninth_hand_waits_for_another_to_come_back.Given as goal

-- the store is one that may give a hand
abbrev pub invariant-loop : goal.invariant-loop
invariant-loop g l =
    IsStore (arc_value l.store.pool).words true l.store.pass (map made_at l.store.homes.items) l.store.ever × (64 ≤ vec_capacity l.store.homes)
