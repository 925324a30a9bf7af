use Rattle.vm_step.specs.Prelude.{GoesOn}
use Rattle.vm_pool_callers.proofs.Prelude.{HasJoined, map, view}
use Rattle.vm_pool_callers.proofs.whole_again.join_each.Given as goal

abbrev pub invariant-loop-other : goal.invariant-loop-other
invariant-loop-other g l =
    GoesOn l.pool.words g.B.Block.tells l.initial.pass l.pass
    × HasJoined (view l.initial.pass) (map (λ p. view p) l.yielded) (view l.pass)
