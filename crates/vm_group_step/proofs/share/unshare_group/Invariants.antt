use Rattle.vm_group_step.proofs.share.unshare_group.Given as goal
use Rattle.vm_group_step.specs.Heads.{pages_under}
use Rattle.vm_step.proofs.Prelude.{UnshareTold, told_of}
use Rattle.vm_step.specs.Over.{InTurn}

abbrev pub ghosts-fetch_sub : goal.ghosts-fetch_sub
ghosts-fetch_sub g a =
    record {
      told = told_of a.words.now.table.shared.key g.B.Block.tells
          (InTurn UnshareTold (pages_under a.words.now.table.shared.key a._about));
    }
