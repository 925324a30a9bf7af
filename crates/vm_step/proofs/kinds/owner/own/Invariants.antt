use Rattle.vm_step.proofs.Prelude.{OwnerTold, told_of, ◌+◌}
use Rattle.vm_step.proofs.kinds.owner.own.Given as goal

abbrev pub ghosts-store : goal.ghosts-store
ghosts-store g a = record {
  told = told_of a.words.now.table.shared.key g.B.Block.tells
      (λ _. OwnerTold a._about.0 a._about.1 (a._about.0 + 1));
}
