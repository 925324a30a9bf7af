use Rattle.vm_step.proofs.Prelude.{ClearTold, StandsClean, told_of}
use Rattle.vm_step.proofs.kinds.mapping.clear.Given as goal

abbrev pub ghosts-store : goal.ghosts-store
ghosts-store g a = record {
  told = told_of a.words.now.table.shared.key g.B.Block.tells
      (λ _. λ v w. (f : _) → StandsClean v a._about f → ClearTold a._about f v w);
}
