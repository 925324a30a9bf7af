use Rattle.vm_evict.proofs.Prelude.{IsFlushedTo, view}
use Rattle.vm_supply.specs.from_vm_step.Prelude.{GoesOn}
use Rattle.vm_evict.proofs.flushing.flush.Given as goal

-- the pages below p were visited
abbrev pub invariant-loop-p : goal.invariant-loop-p
invariant-loop-p g l = record {
  goes : GoesOn l.fn.words g.B.Block.tells l.fn.pass l.pass;
  flushed : IsFlushedTo l.p l.flushed (view l.fn.pass) (view l.pass);
}
