use Rattle.vm_step.proofs.Prelude.{LoadTold, told_of}
use Rattle.vm_step.proofs.kinds.content.load_at.Given as goal

abbrev pub ghosts-load : goal.ghosts-load
ghosts-load g a = record { told = told_of a.words.now.table.shared.key g.B.Block.tells (LoadTold a._about.0 a._about.1 a._about.2) }
