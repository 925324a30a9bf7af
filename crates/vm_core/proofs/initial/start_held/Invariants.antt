use Rattle.std.proofs.Common.{◌≡◌, replicate}
use Rattle.vm_core.proofs.initial.start_held.Given as goal

abbrev pub invariant-loop-actor : goal.invariant-loop-actor
invariant-loop-actor l = l.held.items ≡ replicate l.actor (replicate l.count 0)
