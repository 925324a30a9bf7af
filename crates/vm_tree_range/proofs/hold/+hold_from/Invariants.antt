use Rattle.vm_tree_range.proofs.hold.+hold_from.Given as goal

-- the leaves that can still be held
abbrev pub decreases-hold_from : goal.decreases-hold_from
decreases-hold_from g l = l.left
