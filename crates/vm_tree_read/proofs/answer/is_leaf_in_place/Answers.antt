-- The page has as many words as the layout's.
use Rattle.std.proofs.Common.{sym}
use Rattle.vm_tree_rule.proofs.Whole.{tree_key}
use Rattle.vm_tree_read.proofs.answer.is_leaf_in_place.Goals as goal

pub is_leaf_between-requires-clause-size : goal.is_leaf_between-requires-clause-size
is_leaf_between-requires-clause-size g c = sym (tree_key _ _ c.args.words.now.sized.0 c.args.words.now.size.takes)
