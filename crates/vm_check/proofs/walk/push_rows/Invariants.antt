use Rattle.std.proofs.Common.{◌≡◌, ◌++◌, map, take}
use Rattle.vm_tree_model.specs.Page.{pairs_of}
use Rattle.vm_check.proofs.walk.push_rows.Given as goal

abbrev pub invariant-loop-i : goal.invariant-loop-i
invariant-loop-i g l = map g.F.Nodes.pair l.rows.items ≡ map g.F.Nodes.pair l.fn.rows.items ++ take l.i (pairs_of g.F.Nodes.layout l.page)
