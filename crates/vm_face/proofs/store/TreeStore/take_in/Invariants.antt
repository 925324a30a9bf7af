use Rattle.std.proofs.Common.{◌≡◌, ◌≤◌, length, map}
use Rattle.std.specs.Arc.{arc_value}
use Rattle.std.specs.Vec.{vec_capacity}
use Rattle.vm_face.specs.Homes.{made_at}
use Rattle.vm_step.specs.Prelude.{view}
use Rattle.vm_face.specs.{Homes.HasTakenIn, Homes.hand_at, Passes.IsStore}
use Rattle.vm_face.proofs.store.TreeStore.take_in.Given as goal

abbrev pub decreases-loop-rest : goal.decreases-loop-rest
decreases-loop-rest g l = l.rest

-- the places from `rest` on were looked at
abbrev pub invariant-loop-rest : goal.invariant-loop-rest
invariant-loop-rest g l =
    IsStore (arc_value l.self.pool).words g.B.Block.tells l.self.pass (map made_at l.self.homes.items) l.self.ever
    × (vec_capacity l.self.homes ≡ vec_capacity l.initial.self.homes)
    × (arc_value l.self.pool ≡ arc_value l.initial.self.pool)
    × (l.self.ever ≡ l.initial.self.ever)
    × (l.rest ≤ length l.self.homes.items)
    × HasTakenIn (map (λ h. hand_at (made_at h)) l.initial.self.homes.items) (map (λ h. hand_at (made_at h)) l.self.homes.items)
    (view l.initial.self.pass) (view l.self.pass)
