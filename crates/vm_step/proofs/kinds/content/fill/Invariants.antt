use Rattle.vm_step.proofs.Prelude.{Stores, take, view}
use Rattle.vm_step.specs.Prelude.{GoesOn}
use Rattle.vm_step.proofs.kinds.content.fill.Given as goal

-- the words below i were stored
abbrev pub invariant-loop-i : goal.invariant-loop-i
invariant-loop-i g l = record {
  goes : GoesOn l.words g.B.Block.tells l.fn.pass l.pass;
  stores : Stores l.frame 0 (take l.i l.page) (view l.fn.pass) (view l.pass);
}
