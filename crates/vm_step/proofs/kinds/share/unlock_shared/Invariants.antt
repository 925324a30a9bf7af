use Rattle.vm_step.proofs.Prelude.{told_of, UnshareTold}
use Rattle.vm_step.proofs.kinds.share.unlock_shared.Given as goal

abbrev pub ghosts-fetch_sub : goal.ghosts-fetch_sub
ghosts-fetch_sub g a = record { told = told_of a.words.now.table.shared.key g.B.Block.tells (UnshareTold a._about) }
