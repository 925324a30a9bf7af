use Rattle.std.proofs.Common.{◌+◌, ◌≡◌}
use Rattle.vm_build.specs.Numbers.{number_at}
use Rattle.vm_drive.specs.Drives.{items_of}
use Rattle.vm_churn.proofs.calls.calls_of.Given as goal
use Rattle.vm_churn.proofs.Lists.{lists_up_to}

abbrev pub invariant-places : goal.invariant-places
invariant-places l = record {
  lists : items_of l.lists.items ≡ lists_up_to l.pairs l.seed l.workers l.before;
  keys : l.keys ≡ number_at l.seed l.before;
  new_keys : l.new_keys ≡ number_at l.seed (l.pairs + l.before);
}
