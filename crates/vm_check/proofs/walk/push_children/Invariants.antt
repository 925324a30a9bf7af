use Rattle.std.proofs.Common.{◌≡◌, ◌++◌, map, take, reverse}
use Rattle.vm_tree_model.specs.Page.{pairs_of}
use Rattle.vm_tree_model.specs.Walk.{children}
use Rattle.vm_check.specs.Places.{place, rank_or}
use Rattle.vm_check.proofs.walk.push_children.Given as goal

abbrev pub invariant-loop-i : goal.invariant-loop-i
invariant-loop-i g l = children l.level (take l.i (pairs_of g.F.Nodes.layout l.page)) (rank_or g.F.Nodes.rank g.F.Nodes.layout.key_end l.above)
    ++ map (place g.F.Nodes.rank g.F.Nodes.layout.key_end) (reverse l.slots.items)
    ≡ children l.level (pairs_of g.F.Nodes.layout l.page) (rank_or g.F.Nodes.rank g.F.Nodes.layout.key_end l.fn.high)
    ++ map (place g.F.Nodes.rank g.F.Nodes.layout.key_end) (reverse l.fn.slots.items)
