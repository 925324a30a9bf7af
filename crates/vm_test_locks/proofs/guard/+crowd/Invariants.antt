use Rattle.vm_test_locks.proofs.guard.+crowd.Given as goal

-- the shares that are still to be taken
abbrev pub decreases-crowd : goal.decreases-crowd
decreases-crowd g l = l.more
