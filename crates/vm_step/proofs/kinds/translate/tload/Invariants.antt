use Rattle.vm_step.proofs.Prelude.{told_of, TranslationTold}
use Rattle.vm_step.proofs.kinds.translate.tload.Given as goal

abbrev pub ghosts-load : goal.ghosts-load
ghosts-load g a = record { told = told_of a.words.now.table.shared.key g.B.Block.tells (TranslationTold a._about) }
