use Rattle.vm_step.proofs.Prelude.{CleanTold, told_of}
use Rattle.vm_step.proofs.kinds.mapping.set_clean.Given as goal

abbrev pub ghosts-store : goal.ghosts-store
ghosts-store g a = record { told = told_of a.words.now.table.shared.key g.B.Block.tells (λ _. CleanTold a._about.0 a._about.1) }
