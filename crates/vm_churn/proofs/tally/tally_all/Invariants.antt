use Rattle.std.proofs.Common.{◌≡◌, take}
use Rattle.vm_churn.specs.Tallies.{total_of}
use Rattle.vm_churn.proofs.tally.tally_all.Given as goal

abbrev pub invariant-workers : goal.invariant-workers
invariant-workers l = l.all ≡ total_of (take l.own-index l.tallies)
