use Rattle.vm_rule.proofs.Prelude.{map, Some, ◌≡◌}
use Rattle.vm_rule.proofs.opening.slots_of.Given as goal

abbrev pub invariant-loop-block : goal.invariant-loop-block
invariant-loop-block g l = l.slots.items ≡ map Some l.yielded
