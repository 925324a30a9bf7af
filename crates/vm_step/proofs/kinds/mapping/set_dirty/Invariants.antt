use Rattle.vm_step.proofs.Prelude.{DirtyTold, told_of}
use Rattle.vm_step.proofs.kinds.mapping.set_dirty.Given as goal

abbrev pub ghosts-store : goal.ghosts-store
ghosts-store g a = record { told = told_of a.words.now.table.shared.key g.B.Block.tells (λ _. DirtyTold a._about.0 a._about.1) }
