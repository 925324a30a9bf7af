use Rattle.std.proofs.Common.{◌∙◌}
use Rattle.vm_tree_callers.proofs.write_calls.split_once.Goals as goal

pub returns-clause-home : goal.returns-clause-home
returns-clause-home c = c.try_split.ensures.tried.0.out ∙ c.requires.home
