use Rattle.std.proofs.Common.{[], ◌≡◌, map}
use Rattle.vm_script.specs.Orders.{lists_of}
use Rattle.vm_script.proofs.script.empty_lists.Given as goal

abbrev pub invariant-workers : goal.invariant-workers
invariant-workers g l = map (λ calls. calls.items) l.lists.items ≡ lists_of l._worker []
