use Rattle.vm_step.proofs.Prelude.{LockTold, told_of}
use Rattle.vm_step.proofs.kinds.lock.lock_exclusive.Given as goal

abbrev pub ghosts-compare_exchange : goal.ghosts-compare_exchange
ghosts-compare_exchange g a =
    record {
      told = told_of a.words.now.table.shared.key g.B.Block.tells
          (LockTold g.U.Owner.tied a._about a.expects);
    }
