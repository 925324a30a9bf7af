use Rattle.vm_step.proofs.Prelude.{OwnerLoadTold, told_of}
use Rattle.vm_step.proofs.kinds.owner.oload.Given as goal

abbrev pub ghosts-load : goal.ghosts-load
ghosts-load g a = record { told = told_of a.words.now.table.shared.key g.B.Block.tells (OwnerLoadTold a._about) }
