-- The page has as many words as the layout's.
use Rattle.std.proofs.Common.{arith, rules, sym}
use Rattle.std.proofs.lemmas.Grind.{common_steps}
use Rattle.vm_tree_rule.proofs.Whole.{tree_key}
use Rattle.vm_tree_read.proofs.read.window_in_place.Goals as goal

pub window_at-requires-clause-size : goal.window_at-requires-clause-size
window_at-requires-clause-size g c = sym (tree_key _ _ c.args.words.now.sized.0 c.args.words.now.size.takes)

-- what the window tells of each page with the words loaded
pub returns-clause-found : goal.returns-clause-found
returns-clause-found g c =
    let told = c.window_at.ensures.told in
    (told.0, told.1, first_of (search rules, grind (arith, common_steps)))
