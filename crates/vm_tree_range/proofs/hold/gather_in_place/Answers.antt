-- The page has as many words as the layout's.
use Rattle.std.proofs.Common.{sym}
use Rattle.vm_tree_read.proofs.from_vm_tree_rule.Whole.{tree_key}
use Rattle.vm_tree_range.proofs.hold.gather_in_place.Goals as goal

pub range_at-requires-clause-size : goal.range_at-requires-clause-size
range_at-requires-clause-size g c = sym (tree_key _ _ c.args.words.now.sized.0 c.args.words.now.size.takes)
