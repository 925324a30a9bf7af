use Rattle.std.proofs.Common.{drop}
use Rattle.vm_core.specs.Prelude.{StartHeads}
use Rattle.vm_core.proofs.initial.start_heads.Given as goal

abbrev pub invariant-loop-i : goal.invariant-loop-i
invariant-loop-i l = StartHeads l.pages (drop l.i l.groups) l.heads.items
