use Rattle.vm_step.proofs.Prelude.{ClaimTold, told_of}
use Rattle.vm_step.proofs.kinds.next.claim.Given as goal

abbrev pub ghosts-compare_exchange : goal.ghosts-compare_exchange
ghosts-compare_exchange g a = record { told = told_of a.words.now.table.shared.key g.B.Block.tells (ClaimTold a.expects a._about) }
