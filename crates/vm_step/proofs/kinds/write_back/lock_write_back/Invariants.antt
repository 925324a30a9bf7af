use Rattle.vm_step.proofs.Prelude.{told_of, WriteLockTold}
use Rattle.vm_step.proofs.kinds.write_back.lock_write_back.Given as goal

abbrev pub ghosts-compare_exchange : goal.ghosts-compare_exchange
ghosts-compare_exchange g a =
    record {
      told = told_of a.words.now.table.shared.key g.B.Block.tells
          (WriteLockTold g.U.Owner.tied a._about a.expects);
    }
