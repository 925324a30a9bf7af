use Rattle.vm_step.proofs.Prelude.{MarkTold, told_of, UNLOCKED, version_of, word_of}
use Rattle.vm_step.proofs.kinds.mark.unmark.Given as goal

abbrev pub ghosts-compare_exchange : goal.ghosts-compare_exchange
ghosts-compare_exchange g a =
    record {
      told = told_of a.words.now.table.shared.key g.B.Block.tells
          (λ n v w. MarkTold a._about a.expects n (word_of UNLOCKED (version_of a.expects)) v w);
    }
