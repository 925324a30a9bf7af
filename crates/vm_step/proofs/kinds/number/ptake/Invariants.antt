use Rattle.vm_rule.specs.FreeNumbers.{TakeNumbersTold}
use Rattle.vm_step.proofs.Prelude.{told_of}
use Rattle.vm_step.proofs.kinds.number.ptake.Given as goal

abbrev pub ghosts-compare_exchange : goal.ghosts-compare_exchange
ghosts-compare_exchange g a =
    record {
      told = told_of a.words.now.table.shared.key g.B.Block.tells
          (TakeNumbersTold a._about.0 a.expects a._about.1);
    }
