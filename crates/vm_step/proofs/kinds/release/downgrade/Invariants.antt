use Rattle.vm_step.proofs.Prelude.{DowngradeTold, ReleaseTells, told_of}
use Rattle.vm_step.proofs.kinds.release.downgrade.Given as goal

abbrev pub ghosts-store : goal.ghosts-store
ghosts-store g a = record {
  told = told_of a.words.now.table.shared.key g.B.Block.tells
      (λ _. ReleaseTells g.U.Owner.keeps g.B.Block.tells a._about.0 (DowngradeTold a._about.0 a._about.1));
}
