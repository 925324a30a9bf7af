use Rattle.vm_step.specs.Prelude.{GoesOn, view}
use Rattle.vm_group_evict.proofs.GroupsInTurn.{EvictsFirst}
use Rattle.vm_group_evict.proofs.groups.evict_groups.Given as goal

-- the first i groups were evicted
abbrev pub invariant-loop-i : goal.invariant-loop-i
invariant-loop-i g l = record {
  goes : GoesOn l.words g.B.Block.tells l.fn.pass l.pass;
  first : EvictsFirst l.size l.i l.candidates.list.items l.candidates.looks (view l.fn.pass) (view l.pass) l.evicted;
}
