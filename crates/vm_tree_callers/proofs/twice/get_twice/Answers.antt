use Rattle.vm_tree_callers.proofs.Answered.{done-not}
use Rattle.vm_step.proofs.Going.{goes-then}
use Rattle.vm_tree_callers.proofs.twice.get_twice.Goals as goal

pub returns-in_default-try_get : goal.returns-in_default-try_get
returns-in_default-try_get g c = record {
  goes = goes-then c.try_get.ensures.goes c.try_get-2.ensures.goes;
  mine = tt;
  legal = λ _. tt;
  sure = λ tells resident.
      absurd (done-not c.try_get-2.result (c.try_get-2.ensures.sure tells (c.try_get.ensures.known tells resident))
      c.in_default-try_get.not-Done);
}
