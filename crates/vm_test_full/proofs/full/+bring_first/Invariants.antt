use Rattle.vm_test_full.proofs.full.+bring_first.Given as goal

-- the pages that are still to come
abbrev pub decreases-bring_first : goal.decreases-bring_first
decreases-bring_first g l = l.n
