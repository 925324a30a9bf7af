use Rattle.std.proofs.Common.{inl, refl}
use Rattle.vm_test_tree.proofs.reads.a_locked_page_is_tried_again.Goals as goal

pub release-requires-clause-owner : goal.release-requires-clause-owner
release-requires-clause-owner g c tells = inl (refl, (c.get_beside.ensures.same, c.get_beside.ensures.unpaid, tt))
