-- Stores and hands as each export finds and leaves them.
use Rattle.std.specs.Prelude.{◌≤◌, map, true}
use Rattle.std.specs.{Arc.arc_value, Vec.vec_capacity}
use Rattle.vm_face.specs.Homes.{made_at, made_with}
use Rattle.vm_face.specs.{Homes.IsHandOf, Passes.IsStore}
use Rattle.vm_c.specs.declared.opened.{OpenHand.OpenHand, OpenStore.OpenStore}

-- a store of the words of its pool, with room for the ways back of as many hands as may be out
abbrev pub IsFitStore : OpenStore → Type 0
IsFitStore s =
    IsStore (arc_value s.store.pool).words true s.store.pass (map made_at s.store.homes.items) s.store.ever
    × (64 ≤ vec_capacity s.store.homes)

-- a hand of the words of its pool, with its way back to the store that gave it
abbrev pub IsFitHand : OpenHand → Type 0
IsFitHand h = IsHandOf (made_with h.hand.way) (arc_value h.hand.pool).words true h.hand.pass h.hand.iface.frames
