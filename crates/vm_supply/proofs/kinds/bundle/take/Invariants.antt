use Rattle.vm_step.proofs.Prelude.{TakeTold, told_of}
use Rattle.vm_supply.proofs.kinds.bundle.take.Given as goal

abbrev pub ghosts-compare_exchange : goal.ghosts-compare_exchange
ghosts-compare_exchange g a =
    record { told = told_of a.words.now.table.shared.key g.B.Block.tells (TakeTold a._about.0 a.expects a._about.1) }
