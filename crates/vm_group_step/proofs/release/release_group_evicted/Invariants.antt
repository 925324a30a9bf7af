use Rattle.vm_group_step.proofs.release.release_group_evicted.Given as goal
use Rattle.vm_group_step.specs.Heads.{pages_under}
use Rattle.vm_step.proofs.Prelude.{EvictTold, ReleaseTells, told_of}
use Rattle.vm_step.specs.Over.{InTurn}

abbrev pub ghosts-store : goal.ghosts-store
ghosts-store g a =
    record {
      told = told_of a.words.now.table.shared.key g.B.Block.tells
          (InTurn (λ q _. ReleaseTells g.U.Owner.keeps g.B.Block.tells q (EvictTold q a._about.1)) (pages_under a.words.now.table.shared.key a._about.0));
    }
