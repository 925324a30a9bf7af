use Rattle.vm_group_step.proofs.mark.unmark_group.Given as goal
use Rattle.vm_group_step.specs.Heads.{pages_under}
use Rattle.vm_step.proofs.Prelude.{MarkTold, UNLOCKED, version_of, word_of, told_of}
use Rattle.vm_step.specs.Over.{InTurn}

abbrev pub ghosts-compare_exchange : goal.ghosts-compare_exchange
ghosts-compare_exchange g a =
    record {
      told = told_of a.words.now.table.shared.key g.B.Block.tells
          (InTurn (λ q n v w. MarkTold q a.expects n (word_of UNLOCKED (version_of a.expects)) v w)
          (pages_under a.words.now.table.shared.key a._about));
    }
