use Rattle.vm_step.proofs.Prelude.{None, told_of}
use Rattle.vm_step.proofs.kinds.share.lock_shared_silently.Given as goal
use Rattle.vm_step.specs.steps.Share.{LockSharedTells}

abbrev pub ghosts-compare_exchange : goal.ghosts-compare_exchange
ghosts-compare_exchange g a =
    record {
      told = told_of a.words.now.table.shared.key g.B.Block.tells
          (LockSharedTells g.U.Owner.keeps g.U.Owner.tied g.B.Block.tells a._about a.expects None);
    }
