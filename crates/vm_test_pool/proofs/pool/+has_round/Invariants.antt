use Rattle.vm_test_pool.proofs.pool.+has_round.Given as goal

-- the pages that are still to come
abbrev pub decreases-has_round : goal.decreases-has_round
decreases-has_round g l = l.n
