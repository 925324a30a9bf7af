use Rattle.std.proofs.Common.{◌<◌, arith, rules}
use Rattle.vm_tree_model.proofs.FixedLaws.{size_is}
use Rattle.vm_drive_callers.proofs.trees.page.Goals as goal

pub get-requires : goal.get-requires
get-requires g c = (search rules, size_is (λ n. 0 < n) g.row.N c.requires.sized (omega arith) (omega arith))
