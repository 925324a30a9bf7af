use Rattle.vm_step.specs.Prelude.{IsSamePass, view}
use Rattle.vm_workers.specs.Puts.{KeepsParts, MayStartWork}
use Rattle.vm_workers.proofs.puts.work.Given as goal

abbrev pub invariant-loop-k : goal.invariant-loop-k
invariant-loop-k g l =
    IsSamePass l.initial.pass l.pass
    × MayStartWork l.pool.words.table.shared.key g.B.Block.tells l.pool.words.table.shared.table_id l.iface.frames l.pass
    × KeepsParts (view l.initial.pass) (view l.pass)
