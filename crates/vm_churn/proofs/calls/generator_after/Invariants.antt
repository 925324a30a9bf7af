use Rattle.std.proofs.Common.{◌≡◌}
use Rattle.vm_build.specs.Numbers.{number_at}
use Rattle.vm_churn.proofs.calls.generator_after.Given as goal

abbrev pub invariant-places : goal.invariant-places
invariant-places l = l.numbers ≡ number_at l.seed l._place
