use Rattle.std.proofs.Common.{◌∙◌, refl, rules}
use Rattle.vm_face.proofs.Homes.{none-taken, taken-then}
use Rattle.vm_face.proofs.store.TreeStore.take_in.Goals as goal

pub loop-rest-init : goal.loop-rest-init
loop-rest-init g c = (c.requires.store, refl, refl, refl, search rules, none-taken _ _)

pub look_at-requires : goal.look_at-requires
look_at-requires g c = search rules

pub loop-rest-preserved : goal.loop-rest-preserved
loop-rest-preserved g c =
    let before = c.loop-rest.invariant in
    let now = c.look_at.ensures in (
      now.store,
      now.room ∙ before.1,
      now.pool ∙ before.2,
      now.ever ∙ before.3,
      now.rest,
      taken-then _ _ _ _ _ _ before.5 now.taken,
    )
