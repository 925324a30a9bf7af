use Rattle.vm_group_step.proofs.release.release_group.Given as goal
use Rattle.vm_group_step.specs.Heads.{pages_under}
use Rattle.vm_step.proofs.Prelude.{option_map, told_of}
use Rattle.vm_step.specs.{Over.InTurn, steps.Release.ReleaseTellsOf}

abbrev pub ghosts-store : goal.ghosts-store
ghosts-store g a =
    record {
      told = told_of a.words.now.table.shared.key g.B.Block.tells
          (InTurn (λ q _. ReleaseTellsOf g.U.Owner.keeps g.B.Block.tells a._about.0 a._about.1 a._about.2.now
          (option_map (λ b. b.now) a._about.3) q) (pages_under a.words.now.table.shared.key a._about.0));
    }
