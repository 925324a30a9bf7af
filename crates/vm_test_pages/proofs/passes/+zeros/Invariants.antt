use Rattle.vm_test_pages.proofs.passes.+zeros.Given as goal

-- the blocks that are still to be made
abbrev pub decreases-zeros : goal.decreases-zeros
decreases-zeros g l = l.pages
