use Rattle.vm_step.proofs.Prelude.{StoresTold, told_of}
use Rattle.vm_step.proofs.kinds.content.store_at.Given as goal

abbrev pub ghosts-store : goal.ghosts-store
ghosts-store g a = record { told = told_of a.words.now.table.shared.key g.B.Block.tells (λ _. StoresTold a._about.0 a._about.1 a.new) }
