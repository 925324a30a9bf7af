use Rattle.vm_test_passes.proofs.threads.+used_blocks.Given as goal

-- the blocks that are still to be made
abbrev pub decreases-used_blocks : goal.decreases-used_blocks
decreases-used_blocks g l = l.n
