use Rattle.vm_step.proofs.Prelude.{LookTells, None, told_of}
use Rattle.vm_step.proofs.kinds.look.look_silently.Given as goal

abbrev pub ghosts-load : goal.ghosts-load
ghosts-load g a = record {
  told = told_of a.words.now.table.shared.key g.B.Block.tells
      (LookTells g.U.Owner.keeps g.U.Owner.tied g.B.Block.tells a._about None);
}
