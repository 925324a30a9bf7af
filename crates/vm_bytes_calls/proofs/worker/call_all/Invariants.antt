use Rattle.std.proofs.Common.{drop, take}
use Rattle.vm_step.specs.Prelude.{view}
use Rattle.vm_calls.specs.from_vm_tree_read.Waiting.{LosesNone}
use Rattle.vm_calls.specs.Workers.{HasCalled, IsAtWork}
use Rattle.vm_bytes_calls.specs.{KeyAnswers.HasKeyRoom, KeyAnswers.KeepsKeyAnswers, KeyCalls.key_calls}
use Rattle.vm_bytes_calls.proofs.worker.call_all.Given as goal

abbrev pub invariant-calls : goal.invariant-calls
invariant-calls g l = record {
  work : IsAtWork l.pool.words.table.shared.key g.B.Block.tells l.pool.words.table.shared.table_id l.worker;
  done : HasCalled key_calls KeepsKeyAnswers (take l.call-index l.calls) l.worker.answers (view l.fn.worker.pass) (view l.worker.pass);
  lost : LosesNone l.fn.worker.iface.frames (view l.fn.worker.pass) l.worker.iface.frames (view l.worker.pass);
  room : HasKeyRoom l.worker.answers (drop l.call-index l.calls);
}
