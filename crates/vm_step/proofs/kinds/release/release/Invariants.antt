use Rattle.vm_step.proofs.Prelude.{option_map, ReleaseTells, ReleaseTold, told_of}
use Rattle.vm_step.proofs.kinds.release.release.Given as goal

abbrev pub ghosts-store : goal.ghosts-store
ghosts-store g a = record {
  told = told_of a.words.now.table.shared.key g.B.Block.tells
      (λ _. ReleaseTells g.U.Owner.keeps g.B.Block.tells a._about.0
      (ReleaseTold a._about.0 a._about.1 a._about.2.now (option_map (λ b. b.now) a._about.3)));
}
