use Rattle.vm_rule.specs.FreeNumbers.{GiveNumbersTold}
use Rattle.vm_step.proofs.Prelude.{told_of}
use Rattle.vm_step.proofs.kinds.number.pgive.Given as goal

abbrev pub ghosts-fetch_or : goal.ghosts-fetch_or
ghosts-fetch_or g a = record { told = told_of a.words.now.table.shared.key g.B.Block.tells (GiveNumbersTold a._about a.k) }
