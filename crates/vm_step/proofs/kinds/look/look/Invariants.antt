use Rattle.vm_step.proofs.Prelude.{LookTells, option_map, told_of}
use Rattle.vm_step.proofs.kinds.look.look.Given as goal

abbrev pub ghosts-load : goal.ghosts-load
ghosts-load g a = record {
  told = told_of a.words.now.table.shared.key g.B.Block.tells
      (LookTells g.U.Owner.keeps g.U.Owner.tied g.B.Block.tells a._about.0 (option_map (λ b. b.now) a._about.1));
}
