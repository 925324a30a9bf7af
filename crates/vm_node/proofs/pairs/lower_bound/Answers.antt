-- Among keys that rise the bound is behind the lower ones.
use Rattle.vm_node.proofs.Bounds.{bound_place}
use Rattle.vm_node.proofs.Telling.{told_buffer}
use Rattle.vm_node.proofs.pairs.lower_bound.Goals as goal

pub returns-clause-bound : goal.returns-clause-bound
returns-clause-bound g c =
    let told = c.lower_bound_at.ensures.told in
    told_buffer told told.through c.in_buffer-place.ensures.same c.in_buffer-place.ensures.size c.count_of-count.ensures.pairs

pub returns-clause-place : goal.returns-clause-place
returns-clause-place g c low high rises = bound_place _ low high c.args.key _ rises (returns-clause-bound g c)
