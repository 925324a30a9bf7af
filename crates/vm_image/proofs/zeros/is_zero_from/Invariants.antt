use Rattle.std.proofs.Common.{◌≡◌, drop, length}
use Rattle.vm_tree_model.specs.Walk.{all_zero}
use Rattle.vm_image.proofs.zeros.is_zero_from.Given as goal

abbrev pub invariant-loop-i : goal.invariant-loop-i
invariant-loop-i g l = (length l.page ≡ g.row.N) × (all_zero (drop l.i l.page) ≡ all_zero (drop l.from l.page))
