use Rattle.vm_step.specs.Prelude.{GoesOn, view}
use Rattle.vm_group_evict.specs.Saving.{SavesFirst}
use Rattle.vm_group_evict.proofs.save.save_pages.Given as goal

-- the first k pages were saved
abbrev pub invariant-loop-k : goal.invariant-loop-k
invariant-loop-k g l = record {
  goes : GoesOn l.words g.B.Block.tells l.fn.pass l.pass;
  saves : SavesFirst l.head l.size l.k l.written (view l.fn.pass) (view l.pass);
}
