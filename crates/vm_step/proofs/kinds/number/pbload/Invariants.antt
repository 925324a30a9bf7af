use Rattle.vm_rule.specs.FreeNumbers.{SpareTold}
use Rattle.vm_step.proofs.Prelude.{told_of}
use Rattle.vm_step.proofs.kinds.number.pbload.Given as goal

abbrev pub ghosts-load : goal.ghosts-load
ghosts-load g a = record { told = told_of a.words.now.table.shared.key g.B.Block.tells (SpareTold a._about) }
