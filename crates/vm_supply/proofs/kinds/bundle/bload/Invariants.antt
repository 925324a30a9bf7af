use Rattle.vm_step.proofs.Prelude.{BundleTold, told_of}
use Rattle.vm_supply.proofs.kinds.bundle.bload.Given as goal

abbrev pub ghosts-load : goal.ghosts-load
ghosts-load g a = record { told = told_of a.words.now.table.shared.key g.B.Block.tells (BundleTold a._about) }
