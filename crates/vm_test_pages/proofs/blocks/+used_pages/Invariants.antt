use Rattle.vm_test_pages.proofs.blocks.+used_pages.Given as goal

-- the blocks that are still to be made
abbrev pub decreases-used_pages : goal.decreases-used_pages
decreases-used_pages g l = l.pages
