use Rattle.vm_exmap.proofs.Prelude.{view}
use Rattle.vm_supply.specs.from_vm_step.Prelude.{GoesOn}
use Rattle.vm_exmap.proofs.Walking.{IsUnderWay}
use Rattle.vm_exmap.proofs.walk.walk.Given as goal

-- the first k bundles of the walk were passed by
abbrev pub invariant-loop-k : goal.invariant-loop-k
invariant-loop-k g l = record {
  goes : GoesOn l.words g.B.Block.tells l.fn.pass l.pass;
  walked : IsUnderWay l.most l.home l.k l.lost (view l.fn.pass) (view l.pass);
}
