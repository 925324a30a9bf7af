use Rattle.std.proofs.Common.{◌≡◌, take}
use Rattle.vm_churn.specs.Tallies.{sum_values}
use Rattle.vm_churn.proofs.tally.sum_of.Given as goal

abbrev pub invariant-rows : goal.invariant-rows
invariant-rows l = l.sum ≡ sum_values (take l.row-index l.rows)
