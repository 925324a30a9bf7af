use Rattle.std.specs.List.{range_with_len}
use Rattle.std.proofs.Common.{◌≡◌, map, slice_index}
use Rattle.vm_core.specs.Prelude.{core_of}
use Rattle.vm_event.specs.declared.event.Event.TheVariants.{Store}
use Rattle.vm_replay.proofs.line.stores_of.Given as goal

abbrev pub invariant-loop-i : goal.invariant-loop-i
invariant-loop-i l = l.events.items ≡ map (λ i. Store l.a l.f i (slice_index ((core_of l.core).pages l.p).block i)) (range_with_len 0 l.i)
