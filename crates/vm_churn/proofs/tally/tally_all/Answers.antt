use Rattle.std.proofs.Common.{ap, arith}
use Rattle.vm_churn.specs.declared.tally.Tally.{Tally}
use Rattle.vm_churn.proofs.Counting.{sum_small}
use Rattle.vm_churn.proofs.tally.tally_all.Goals as goal

abbrev none : Tally
none = record { some = 0; new = 0; gone = 0 }

pub overflow_add-all : goal.overflow_add-all
overflow_add-all c = omega (
  arith,
  sum_small (λ t. t.some) c.args.tallies.now c.workers.own-index none c.workers.all.some (λ t s. s.some)
      c.requires.workers c.requires.small c.workers-test.true (ap (λ (t : Tally). t.some) c.workers.invariant),
)

pub overflow_add-all-in-workers : goal.overflow_add-all-in-workers
overflow_add-all-in-workers c =
    omega (
      arith,
      sum_small (λ t. t.new) c.args.tallies.now c.workers.own-index none c.workers.all.new (λ t s. s.new)
          c.requires.workers c.requires.small c.workers-test.true (ap (λ (t : Tally). t.new) c.workers.invariant),
    )

pub overflow_add-all-in-workers-2 : goal.overflow_add-all-in-workers-2
overflow_add-all-in-workers-2 c =
    omega (
      arith,
      sum_small (λ t. t.gone) c.args.tallies.now c.workers.own-index none c.workers.all.gone
          (λ t s. s.gone) c.requires.workers c.requires.small c.workers-test.true
          (ap (λ (t : Tally). t.gone) c.workers.invariant),
    )
