use Rattle.std.proofs.Common.{◌≡◌, drop}
use Rattle.vm_tree_model.specs.Page.{pairs_of}
use Rattle.vm_tree_model.specs.Walk.{rises}
use Rattle.vm_check.specs.Places.{least_after, rank_or}
use Rattle.vm_check.proofs.slot.keys_rise.Given as goal

abbrev pub invariant-loop-i : goal.invariant-loop-i
invariant-loop-i g l = rises (least_after g.F.Nodes.rank (g.F.Nodes.rank l.low) l.last) (rank_or g.F.Nodes.rank g.F.Nodes.layout.key_end l.high)
    (drop l.i (pairs_of g.F.Nodes.layout l.page))
    ≡ rises (g.F.Nodes.rank l.low) (rank_or g.F.Nodes.rank g.F.Nodes.layout.key_end l.high) (pairs_of g.F.Nodes.layout l.page)
