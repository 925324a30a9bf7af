use Rattle.vm_step.proofs.Prelude.{CatchTold, told_of}
use Rattle.vm_supply.proofs.kinds.catch_up.catch_up.Given as goal

abbrev pub ghosts-load : goal.ghosts-load
ghosts-load g a = record { told = told_of a.words.now.table.shared.key g.B.Block.tells (λ _. CatchTold g.B.Block.tells g.U.Owner.keeps) }
