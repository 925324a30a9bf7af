use Rattle.vm_step.proofs.Prelude.{CatchTold, told_of}
use Rattle.vm_supply.proofs.kinds.pass.join_pass.Given as goal

abbrev pub ghosts-take_in : goal.ghosts-take_in
ghosts-take_in g a = record { told = told_of a.words.now.table.shared.key g.B.Block.tells (λ _. CatchTold g.B.Block.tells g.U.Owner.keeps) }
