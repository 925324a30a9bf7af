use Rattle.vm_step.specs.Prelude.{GoesOn, HasJoined, view}
use Rattle.vm_workers.specs.Works.{views_of}
use Rattle.vm_workers.proofs.joins.join_workers.Given as goal

abbrev pub invariant-loop-worker : goal.invariant-loop-worker
invariant-loop-worker g l =
    GoesOn l.pool.words g.B.Block.tells l.initial.pass l.pass
    × HasJoined (view l.initial.pass) (views_of l.yielded) (view l.pass)
