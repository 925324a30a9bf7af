-- The page has as many words as the layout's.
use Rattle.std.proofs.Common.{sym}
use Rattle.vm_tree_merge.proofs.from_vm_tree_rule.Whole.{tree_key}
use Rattle.vm_tree_write.proofs.write.is_tight_in_place.Goals as goal

pub is_tight_at-requires-clause-size : goal.is_tight_at-requires-clause-size
is_tight_at-requires-clause-size g c = sym (tree_key _ _ c.args.words.now.sized.0 c.args.words.now.size.takes)
