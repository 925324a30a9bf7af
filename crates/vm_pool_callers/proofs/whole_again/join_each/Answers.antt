use Rattle.vm_pool_callers.proofs.Prelude.{[], HasJoined, joined-one, map-append, subst, sym, view, ◌∷◌}
use Rattle.vm_step.proofs.Going.{goes-then}
use Rattle.vm_pool_callers.proofs.whole_again.join_each.Goals as goal

pub loop-other-preserved : goal.loop-other-preserved
loop-other-preserved g c =
    let inv = c.loop-other.invariant in
    let told = c.join.ensures.told in (
      goes-then inv.0 c.join.ensures.goes,
      subst (λ l. HasJoined (view c.args.pass.now) l (view c.join.new.pass))
          (sym (map-append (λ p. view p) c.loop-other.yielded (c.in-Some.other ∷ [])))
          (joined-one _ _ _ _ _ _ inv.1 told.caught told.joins),
    )
