use Rattle.vm_step.specs.Prelude.{IsSamePass, view}
use Rattle.vm_workers.specs.Puts.{KeepsParts, MayStartWork}
use Rattle.vm_workers.proofs.puts.put.Given as goal

abbrev pub invariant-loop : goal.invariant-loop
invariant-loop g l =
    IsSamePass l.initial.pass l.pass
    × MayStartWork l.pool.words.table.shared.key g.B.Block.tells l.pool.words.table.shared.table_id l.iface.frames l.pass
    × KeepsParts (view l.initial.pass) (view l.pass)
