use Rattle.vm_group_step.proofs.share.share_group.Given as goal
use Rattle.vm_group_step.specs.Heads.{pages_under}
use Rattle.vm_step.proofs.Prelude.{None, told_of}
use Rattle.vm_step.specs.Over.{InTurn}
use Rattle.vm_step.specs.steps.Share.{LockSharedTells}

abbrev pub ghosts-compare_exchange : goal.ghosts-compare_exchange
ghosts-compare_exchange g a =
    record {
      told = told_of a.words.now.table.shared.key g.B.Block.tells
          (InTurn (λ q. LockSharedTells g.U.Owner.keeps g.U.Owner.tied g.B.Block.tells q a.expects None)
          (pages_under a.words.now.table.shared.key a._about));
    }
