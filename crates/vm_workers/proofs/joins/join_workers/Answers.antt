use Rattle.std.proofs.Common.{[], ◌∷◌, subst, sym}
use mathlib.Core.List.{map-append}
use Rattle.vm_step.specs.Prelude.{HasJoined, view}
use Rattle.vm_step.proofs.Together.{joined-one}
use Rattle.vm_step.proofs.Going.{goes-then}
use Rattle.vm_workers.proofs.joins.join_workers.Goals as goal

pub loop-worker-preserved : goal.loop-worker-preserved
loop-worker-preserved g c =
    let inv = c.loop-worker.invariant in
    let told = c.join.ensures.told in (
      goes-then inv.0 c.join.ensures.goes,
      subst (λ l. HasJoined (view c.args.pass.now) l (view c.join.new.pass))
          (sym (map-append (λ w. view w.pass) c.loop-worker.yielded (c.in-Some.worker ∷ [])))
          (joined-one _ _ _ _ _ _ inv.1 told.caught told.joins),
    )
