use Rattle.vm_test_pool.proofs.pool.+put_round.Given as goal

-- the pages that are still to come
abbrev pub decreases-put_round : goal.decreases-put_round
decreases-put_round g l = l.n
