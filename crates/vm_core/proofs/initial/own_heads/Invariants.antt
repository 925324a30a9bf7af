use Rattle.std.proofs.Common.{[]}
use Rattle.vm_core.specs.Prelude.{StartHeads}
use Rattle.vm_core.proofs.initial.own_heads.Given as goal

abbrev pub invariant-loop-p : goal.invariant-loop-p
invariant-loop-p l = StartHeads l.p [] l.heads.items
