use Rattle.vm_group_step.proofs.look.look_group_saying.Given as goal
use Rattle.vm_group_step.specs.Heads.{pages_under}
use Rattle.vm_step.proofs.Prelude.{option_map, told_of}
use Rattle.vm_step.specs.Over.{InTurn}
use Rattle.vm_step.specs.steps.Look.{LookTells, said_at}

abbrev pub ghosts-load : goal.ghosts-load
ghosts-load g a =
    record {
      told = told_of a.words.now.table.shared.key g.B.Block.tells
          (InTurn (λ q. LookTells g.U.Owner.keeps g.U.Owner.tied g.B.Block.tells q (said_at a._about.0 (option_map (λ b. b.now) a._about.1) q))
          (pages_under a.words.now.table.shared.key a._about.0));
    }
