use Rattle.std.proofs.Common.{◌≡◌, length}
use Rattle.vm_step.specs.Prelude.{IsReady, IsSamePass, view}
use Rattle.vm_workers.specs.Works.{AreFound, MakesEntries}
use Rattle.vm_workers.proofs.tally.serve.Given as goal

abbrev pub invariant-loop-i : goal.invariant-loop-i
invariant-loop-i g l =
    IsSamePass l.initial.pass l.pass
    × IsReady l.words.table.shared.key g.B.Block.tells l.words.table.shared.table_id l.pass
    × MakesEntries (view l.initial.pass) (view l.pass)
    × (length l.replies ≡ length l.calls)
    × AreFound l.i l.calls l.replies (view l.initial.pass) (view l.pass)
