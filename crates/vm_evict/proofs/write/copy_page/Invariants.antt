use Rattle.vm_evict.proofs.{Prelude.IsSamePass, Prelude.view, Writing.Copies}
use Rattle.vm_evict.proofs.write.copy_page.Given as goal

-- the words below i were loaded
abbrev pub invariant-loop-i : goal.invariant-loop-i
invariant-loop-i g l = record {
  same : IsSamePass l.fn.pass l.pass;
  copies : Copies l.p l.i l.page (view l.fn.pass) (view l.pass);
}
