use Rattle.vm_core.specs.Prelude.{StartPages}
use Rattle.vm_core.proofs.initial.start_pages.Given as goal

abbrev pub invariant-loop-p : goal.invariant-loop-p
invariant-loop-p l = StartPages l.shape l.p l.pages.items
