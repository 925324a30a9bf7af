use Rattle.vm_step.proofs.Prelude.{replicate, Stores, view}
use Rattle.vm_step.specs.Prelude.{GoesOn}
use Rattle.vm_step.proofs.kinds.content.blank.Given as goal

-- so many zeros were stored
abbrev pub invariant-loop-i : goal.invariant-loop-i
invariant-loop-i g l = record {
  goes : GoesOn l.words g.B.Block.tells l.fn.pass l.pass;
  stores : Stores l.frame 0 (replicate l.i 0) (view l.fn.pass) (view l.pass);
}
