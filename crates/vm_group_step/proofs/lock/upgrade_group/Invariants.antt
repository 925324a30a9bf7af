use Rattle.vm_group_step.proofs.lock.upgrade_group.Given as goal
use Rattle.vm_group_step.specs.Heads.{pages_under}
use Rattle.vm_step.proofs.Prelude.{UpgradeTold, told_of}
use Rattle.vm_step.specs.Over.{InTurn}

abbrev pub ghosts-compare_exchange : goal.ghosts-compare_exchange
ghosts-compare_exchange g a =
    record {
      told = told_of a.words.now.table.shared.key g.B.Block.tells
          (InTurn (λ q. UpgradeTold g.U.Owner.tied q a.expects) (pages_under a.words.now.table.shared.key a._about));
    }
