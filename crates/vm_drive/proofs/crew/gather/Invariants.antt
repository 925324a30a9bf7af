use Rattle.std.specs.Vec.{vec_capacity}
use Rattle.std.specs.Vec.Iter.{into_iter_items, into_iter_len}
use Rattle.std.proofs.Common.{◌++◌, ◌≡◌, ◌≤◌, length, vec_len}
use Rattle.vm_step.specs.Prelude.{GoesOn, view}
use Rattle.vm_drive.specs.Crews.{answers_of}
use Rattle.vm_drive.proofs.crew.gather.Given as goal
use Rattle.vm_drive.proofs.Joining.{JoinedSoFar}

abbrev pub invariant-workers : goal.invariant-workers
invariant-workers g l = record {
  rest : l.yielded ++ into_iter_items l.worker-iterator ≡ into_iter_items l.initial.worker-iterator;
  len : into_iter_len l.worker-iterator ≡ length (into_iter_items l.worker-iterator);
  goes : GoesOn l.pool.words g.B.Block.tells l.fn.pass l.pass;
  joined : JoinedSoFar g.U.Owner.keeps g.B.Block.tells (view l.fn.pass) l.yielded (view l.pass);
  told : l.kept.items ≡ answers_of l.yielded;
  count : vec_len l.kept ≡ length l.yielded;
  room : length (into_iter_items l.initial.worker-iterator) ≤ vec_capacity l.kept;
}
