use Rattle.std.specs.List.{range_with_len}
use Rattle.std.proofs.Common.{◌≡◌, map}
use Rattle.vm_event.specs.declared.event.Event.TheVariants.{Load}
use Rattle.vm_replay.proofs.line.loads_of.Given as goal

abbrev pub invariant-loop-i : goal.invariant-loop-i
invariant-loop-i l = l.events.items ≡ map (λ i. Load l.a l.p i) (range_with_len 0 l.i)
