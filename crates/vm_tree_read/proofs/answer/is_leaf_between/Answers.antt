use Rattle.std.proofs.Common.{◌∙◌, arith, sym, true≢false}
use Rattle.vm_node.proofs.Telling.{told_so, told_then}
use Rattle.vm_tree_read.proofs.answer.is_leaf_between.Goals as goal

pub returns-then-is_leaf_at-clause-told : goal.returns-then-is_leaf_at-clause-told
returns-then-is_leaf_at-clause-told g c =
    told_so (omega arith) (told_then g.met.P.Place.join c.is_leaf_at.ensures.told c.has_fences_at.ensures.told)
    (λ words size both.
    (λ yes. let fences = both.1.0 yes in (both.0.0 c.if-is_leaf_at.true, fences.0, fences.1), λ no is. both.1.1 no (is.1, is.2)))

pub returns-else-is_leaf_at-clause-told : goal.returns-else-is_leaf_at-clause-told
returns-else-is_leaf_at-clause-told g c =
    told_so (omega arith) c.is_leaf_at.ensures.told
    (λ words size tag. (λ yes. absurd (true≢false (sym yes ∙ c.if-is_leaf_at.false)), λ no is. tag.1 c.if-is_leaf_at.false is.0))
