use Rattle.vm_test_full.proofs.full.+share_first.Given as goal

-- the pages that are still to come
abbrev pub decreases-share_first : goal.decreases-share_first
decreases-share_first g l = l.n
