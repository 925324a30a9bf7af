use Rattle.std.proofs.Common.{[], ◌≡◌}
use Rattle.vm_step.specs.Prelude.{IsSamePass, view}
use Rattle.vm_workers.specs.Puts.{KeepsParts, MayStartWork}
use Rattle.vm_test_guards.proofs.numbers.work.Given as goal

abbrev pub invariant-loop-i : goal.invariant-loop-i
invariant-loop-i g l =
    IsSamePass l.initial.pass l.pass
    × MayStartWork l.words.table.shared.key g.B.Block.tells l.words.table.shared.table_id [] l.pass
    × ((view l.pass).pending ≡ [])
    × KeepsParts (view l.initial.pass) (view l.pass)
