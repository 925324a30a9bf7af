use Rattle.vm_step.proofs.Prelude.{GiveTold, told_of}
use Rattle.vm_supply.proofs.kinds.bundle.give.Given as goal

abbrev pub ghosts-fetch_or : goal.ghosts-fetch_or
ghosts-fetch_or g a = record { told = told_of a.words.now.table.shared.key g.B.Block.tells (GiveTold a._about a.k) }
