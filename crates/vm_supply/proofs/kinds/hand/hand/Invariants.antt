use Rattle.vm_step.proofs.Prelude.{HandTold, told_of}
use Rattle.vm_supply.proofs.kinds.hand.hand.Given as goal

abbrev pub ghosts-fetch_add : goal.ghosts-fetch_add
ghosts-fetch_add g a = record { told = told_of a.words.now.table.shared.key g.B.Block.tells (HandTold) }
