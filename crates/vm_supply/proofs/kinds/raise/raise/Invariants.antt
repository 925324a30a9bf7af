use Rattle.vm_step.proofs.Prelude.{RaiseTold, told_of}
use Rattle.vm_supply.proofs.kinds.raise.raise.Given as goal

abbrev pub ghosts-store : goal.ghosts-store
ghosts-store g a = record { told = told_of a.words.now.table.shared.key g.B.Block.tells (λ _. RaiseTold a._about a.new) }
