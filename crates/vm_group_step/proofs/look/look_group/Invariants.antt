use Rattle.vm_group_step.proofs.look.look_group.Given as goal
use Rattle.vm_group_step.specs.Heads.{pages_under}
use Rattle.vm_step.proofs.Prelude.{None, told_of}
use Rattle.vm_step.specs.Over.{InTurn}
use Rattle.vm_step.specs.steps.Look.{LookTells}

abbrev pub ghosts-load : goal.ghosts-load
ghosts-load g a =
    record {
      told = told_of a.words.now.table.shared.key g.B.Block.tells
          (InTurn (λ q. LookTells g.U.Owner.keeps g.U.Owner.tied g.B.Block.tells q None)
          (pages_under a.words.now.table.shared.key a._about));
    }
