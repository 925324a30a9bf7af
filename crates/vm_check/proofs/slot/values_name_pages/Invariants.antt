use Rattle.std.proofs.Common.{◌≡◌, drop}
use Rattle.vm_tree_model.specs.Page.{pairs_of}
use Rattle.vm_tree_model.specs.Walk.{names_pages}
use Rattle.vm_check.proofs.slot.values_name_pages.Given as goal

abbrev pub invariant-loop-i : goal.invariant-loop-i
invariant-loop-i g l = names_pages l.pages (drop l.i (pairs_of g.F.Nodes.layout l.page)) ≡ names_pages l.pages (pairs_of g.F.Nodes.layout l.page)
