use Rattle.vm_group_evict.specs.Emptying.{AreEmptied}
use Rattle.vm_step.specs.Prelude.{GoesOn, view}
use Rattle.vm_group_evict.proofs.empty.empty_pages.Given as goal

-- the first k pages were taken out of their frames
abbrev pub invariant-loop-k : goal.invariant-loop-k
invariant-loop-k g l = record {
  goes : GoesOn l.words g.B.Block.tells l.fn.pass l.pass;
  emptied : AreEmptied l.head l.k l.frames.items (view l.fn.pass) (view l.pass);
}
