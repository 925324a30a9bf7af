use Rattle.vm_test_full.proofs.full.+put_first.Given as goal

-- the pages that are still to come
abbrev pub decreases-put_first : goal.decreases-put_first
decreases-put_first g l = l.n
