use Rattle.std.proofs.Common.{refl, rules}
use Rattle.vm_page.specs.declared.buf.TheConstants.{WORDS}
use Rattle.vm_tree_callers.proofs.Beginnings.{begins}
use Rattle.vm_tree_callers.proofs.calls.get_first.Goals as goal

pub get_from_start-requires : goal.get_from_start-requires
get_from_start-requires c = let start = begins WORDS refl _ _ _ _ c.in_ok-check.ensures.tree c.next.ensures
    c.in_ok-blocks.ensures.blocks in search (rules, start)
